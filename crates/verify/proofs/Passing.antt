-- The file of every line of a ledger passes under the ledger's sheet.
use Rattle.std.proofs.Common.{◌≡◌, ℕ, zero, suc, ◌+◌, ◌-◌, ◌*◌, ◌/◌, ◌%◌, ◌^◌, ◌<◌, ◌≤◌, Bool, true, false, cond, not, T, eqb, ltb, leb, List, [], ◌∷◌, length, get_or, take, IsOkAnd, Some, None, Ok, Err, Option, Result, sym, refl, ap, ◌∙◌, subst, add-zero, mod-lt, div-lt_iff_lt-mul, pow-suc, div-add-mod', div-one, arith, eqb→eq, ltb→lt, leb→le, pow_mono, pow-add}
use native.Mathlib.Nat.{div-div-eq-div-mul, one-le-pow}
use Rattle.std.specs.List.{slice_get}
use Rattle.refusal.specs.declared.cases.Refusal.{Refusal}
use Rattle.refusal.specs.declared.cases.Refusal.TheVariants.{BadLimits, FileLength, OtherSheet, LeafOutside, JoinUnwritable, RootDiffers}
use Rattle.refusal.specs.Tables.{Answers}
use Rattle.octets.specs.Tests.{same}
use Rattle.octets.proofs.Passes.{true_T, T_true, false_T, same_refl, eqb_in}
use Rattle.amount.specs.Kinds.{Kind, Laws}
use Rattle.digest.specs.Hashes.{Hash, HashLaws}
use Rattle.node.specs.Texts.{Line, Node, node_bytes, leaf_text, padding_text, inner_text, inner_node}
use Rattle.tree.specs.Trees.{bad_limits, leaf_at, node_at}
use Rattle.tree.proofs.Subtrees.{left_below, right_below, shallow}
use Rattle.tree.proofs.Totals.{root_total}
use Rattle.sheet.specs.Layout.{Sheet, head, sheet_bytes, read_sheet}
use Rattle.sheet.proofs.Back.{reads_back}
use Rattle.file.specs.Layout.{File, file_bytes, file_length}
use Rattle.file.specs.Fields.{offset_at, step_index}
use Rattle.file.specs.Ledgers.{Ledger, beside, ledger_sheet, steps_beside, line_file}
use Rattle.verify.specs.Paths.{file_of, step_at, path_node}
use Rattle.verify.specs.Checks.{or_else, first_from, join_refusal_at, joins_refusal, shape_refusal, top_refusal, amounts_refusal, under_refusal, under, check_refusal, leaf_place}
use Rattle.verify.proofs.Back.{Fits, SoundNode, SoundNodes, file_back, amounts_pass, file_long}

-- both nodes below node m / 2
pub even : (m : ℕ) → eqb (m % 2) 0 ≡ true → 2 * (m / 2) ≡ m
even m e = let z = eqb→eq (m % 2) 0 (T_true (eqb (m % 2) 0) e) in omega (arith, div-add-mod' m 2)

pub odd : (m : ℕ) → eqb (m % 2) 0 ≡ false → 2 * (m / 2) + 1 ≡ m
odd m e =
    let below_two : m % 2 < 2 = mod-lt m (omega arith) in
    let not_zero : m % 2 ≡ 0 → ⊥ = λ z. subst T e (eqb_in (m % 2) 0 z) in
    let one : m % 2 ≡ 1 = by_two (m % 2) below_two not_zero in
    omega (arith, div-add-mod' m 2)
  where
    by_two : (r : ℕ) → r < 2 → (r ≡ 0 → ⊥) → r ≡ 1
    by_two zero s f = absurd (f refl)
    by_two (suc zero) s f = refl
    by_two (suc (suc r)) s f = absurd (omega arith)

pub beside_even : (m : ℕ) → eqb (m % 2) 0 ≡ true → beside m ≡ 2 * (m / 2) + 1
beside_even m e = ap (λ b. cond b (m + 1) (m - 1)) e ∙ ap (λ x. x + 1) (sym (even m e))

pub beside_odd : (m : ℕ) → eqb (m % 2) 0 ≡ false → beside m ≡ 2 * (m / 2)
beside_odd m e = ap (λ b. cond b (m + 1) (m - 1)) e ∙ (let q : m - 1 ≡ 2 * (m / 2) = omega (arith, odd m e) in q)

half_low : (m d : ℕ) → m < 2 ^ suc d → m / 2 < 2 ^ d
half_low m d s = (div-lt_iff_lt-mul {k = 2} {x = m} {y = 2 ^ d} (omega arith)).1 (omega (arith, pow-suc 2 d))

pub beside_low : (m d : ℕ) → m < 2 ^ suc d → beside m < 2 ^ suc d
beside_low m d s = which (eqb (m % 2) 0) refl
  where
    which : (b : Bool) → eqb (m % 2) 0 ≡ b → beside m < 2 ^ suc d
    which true e = omega (arith, beside_even m e, half_low m d s, pow-suc 2 d)
    which false e = omega (arith, beside_odd m e, half_low m d s, pow-suc 2 d)

no_row : (b : Bool) (r : Refusal) (rest : Option Refusal) → b ≡ false → rest ≡ None → cond b (Some r) rest ≡ None
no_row b r rest e f = ap (λ x. cond x (Some r) rest) e ∙ f

neither : (a b : Option Refusal) → a ≡ None → b ≡ None → or_else a b ≡ None
neither a b e f = ap (λ x. or_else x b) e ∙ f

-- nothing is refused of bytes that say a file whose path leads to the sheet's root
unrefused : (k : Kind) (h : Hash) (t : Sheet) (s : List ℕ) (f : File) → t.depth ≤ 20 → length s ≡ file_length k.width t.depth → take 7 s ≡ head k h t.closing t.depth
    → file_of k t.depth s ≡ f → f.leaf < 2 ^ t.depth → amounts_refusal k t.depth s ≡ None → joins_refusal k h t.closing t.depth f ≡ None
    → path_node k h t.closing f t.depth ≡ t.root → under_refusal k h t s ≡ None
unrefused k h t s f deep long headed said inside amounts joins top =
    let w = k.width in
    let depth = t.depth in
    let a : ltb 20 depth ≡ false = false_T (ltb 20 depth) (λ x. let y = ltb→lt 20 depth x in omega arith) in
    let b : not (eqb (length s) (file_length w depth)) ≡ false = ap not (true_T (eqb (length s) (file_length w depth)) (eqb_in (length s) (file_length w depth) long)) in
    let c : not (same (take 7 s) (head k h t.closing depth)) ≡ false =
    ap not (true_T (same (take 7 s) (head k h t.closing depth)) (subst (λ x. T (same (take 7 s) x)) headed (same_refl (take 7 s)))) in
    let d : leb (2 ^ depth) (file_of k depth s).leaf ≡ false =
    ap (λ x. leb (2 ^ depth) x.leaf) said ∙ false_T (leb (2 ^ depth) f.leaf) (λ x. let y = leb→le (2 ^ depth) f.leaf x in omega arith) in
    let shape : shape_refusal k h t s ≡ None = no_row _ FileLength _ b (no_row _ OtherSheet _ c (no_row _ LeafOutside _ d refl)) in
    let e : not (same (node_bytes k (path_node k h t.closing f depth)) (node_bytes k t.root)) ≡ false =
    ap not (true_T (same (node_bytes k (path_node k h t.closing f depth)) (node_bytes k t.root))
    (subst (λ x. T (same (node_bytes k (path_node k h t.closing f depth)) (node_bytes k x))) top (same_refl (node_bytes k (path_node k h t.closing f depth))))) in
    let up : or_else (joins_refusal k h t.closing depth f) (top_refusal k h t f) ≡ None = neither _ _ joins (no_row _ RootDiffers _ e refl) in
    let up_said : or_else (joins_refusal k h t.closing depth (file_of k depth s)) (top_refusal k h t (file_of k depth s)) ≡ None =
    ap (λ x. or_else (joins_refusal k h t.closing depth x) (top_refusal k h t x)) said ∙ up in
    neither _ _ (no_row _ BadLimits _ a refl) (neither _ _ shape (neither _ _ amounts up_said))

leaf_digest : (k : Kind) (h : Hash) → HashLaws h → (closing : ℕ) (lines : List Line) (n : ℕ) (o : Option Line) → length (leaf_at k h closing lines n o).digest ≡ 32
leaf_digest k h hashes closing lines n (Some l) = hashes.of_length (leaf_text k closing l)
leaf_digest k h hashes closing lines n None = hashes.of_length (padding_text closing n)

module _ {k : Kind} (laws : Laws k) (h : Hash) (hashes : HashLaws h) (closing : ℕ) (lines : List Line)
    (fit : (n : ℕ) (l : Line) → slice_get lines n ≡ Some l → T (k.writable l.balance)) where
  pub node_digest : (height n : ℕ) → length (node_at k h closing lines height n).digest ≡ 32
  node_digest zero n = leaf_digest k h hashes closing lines n (slice_get lines n)
  node_digest (suc height) n = hashes.of_length (inner_text k (node_at k h closing lines height (2 * n)) (node_at k h closing lines height (2 * n + 1)))

  child : (height m : ℕ) → T (k.writable (node_at k h closing lines (suc height) (m / 2)).amount)
      → (b : Bool) → eqb (m % 2) 0 ≡ b → T (k.writable (node_at k h closing lines height m).amount)
  child height m above true e = subst (λ x. T (k.writable (node_at k h closing lines height x).amount)) (even m e) (left_below laws h closing lines fit height (m / 2) above)
  child height m above false e = subst (λ x. T (k.writable (node_at k h closing lines height x).amount)) (odd m e) (right_below laws h closing lines fit height (m / 2) above)

  -- every node's amount can be written where the root's can
  pub below : (d height m : ℕ) → m < 2 ^ d → T (k.writable (node_at k h closing lines (height + d) 0).amount) → T (k.writable (node_at k h closing lines height m).amount)
  below zero height m s t =
      let z : 0 ≡ m = omega arith in
      subst (λ x. T (k.writable (node_at k h closing lines height x).amount)) z
      (subst (λ x. T (k.writable (node_at k h closing lines x 0).amount)) (add-zero height) t)
  below (suc d) height m s t =
      let up = subst (λ x. T (k.writable (node_at k h closing lines x 0).amount)) (let q : height + suc d ≡ suc height + d = omega arith in q) t in
      child height m (below d (suc height) (m / 2) (half_low m d s) up) (eqb (m % 2) 0) refl

  -- a node and the one beside it have their tree's node over them
  over : (j m : ℕ) (own step : Node) → own ≡ node_at k h closing lines j m → step ≡ node_at k h closing lines j (beside m)
      → (b : Bool) → eqb (m % 2) 0 ≡ b → inner_node k h (cond b own step) (cond b step own) ≡ node_at k h closing lines (suc j) (m / 2)
  over j m own step p q true e =
      ap (λ x. inner_node k h x step) (p ∙ ap (node_at k h closing lines j) (sym (even m e)))
      ∙ ap (λ x. inner_node k h (node_at k h closing lines j (2 * (m / 2))) x) (q ∙ ap (node_at k h closing lines j) (beside_even m e))
  over j m own step p q false e =
      ap (λ x. inner_node k h x own) (q ∙ ap (node_at k h closing lines j) (beside_odd m e))
      ∙ ap (λ x. inner_node k h (node_at k h closing lines j (2 * (m / 2))) x) (p ∙ ap (node_at k h closing lines j) (sym (odd m e)))

  module _ (depth n : ℕ) (l : Line) (is : slice_get lines n ≡ Some l) where
    pub steps_at : (more j i : ℕ) → i < more → get_or (steps_beside k h closing lines n more j) i (record { digest = []; amount = [] }) ≡ node_at k h closing lines (j + i) (beside (n / 2 ^ (j + i)))
    steps_at zero j i s = absurd (omega arith)
    steps_at (suc more) j zero s = ap (λ x. node_at k h closing lines x (beside (n / 2 ^ x))) (sym (add-zero j))
    steps_at (suc more) j (suc i) s =
        steps_at more (suc j) i (omega arith) ∙ ap (λ x. node_at k h closing lines x (beside (n / 2 ^ x))) (let q : suc j + i ≡ j + suc i = omega arith in q)

    -- the path of the file is that of the tree
    pub path : (j : ℕ) → j ≤ depth → path_node k h closing (line_file k h closing lines depth n l) j ≡ node_at k h closing lines j (n / 2 ^ j)
    path zero g = ap (leaf_at k h closing lines n) (sym is) ∙ ap (node_at k h closing lines 0) (sym (div-one n))
    path (suc j) g =
        let f = line_file k h closing lines depth n l in
        let half : n / 2 ^ suc j ≡ n / 2 ^ j / 2 = ap (λ x. n / x) (pow-suc 2 j) ∙ sym (div-div-eq-div-mul n (2 ^ j) 2) in
        let step : step_at f j ≡ node_at k h closing lines j (beside (n / 2 ^ j)) =
        steps_at depth 0 j (omega arith) ∙ ap (λ x. node_at k h closing lines x (beside (n / 2 ^ x))) (let q : 0 + j ≡ j = omega arith in q) in
        over j (n / 2 ^ j) (path_node k h closing f j) (step_at f j) (path j (omega arith)) step (eqb (n / 2 ^ j % 2) 0) refl ∙ ap (node_at k h closing lines (suc j)) (sym half)

    module _ (inside : n < 2 ^ depth) (whole : T (k.writable (node_at k h closing lines depth 0).amount)) where
      pub low : (j : ℕ) → j ≤ depth → n / 2 ^ j < 2 ^ (depth - j)
      low j g =
          let e : 2 ^ (depth - j) * 2 ^ j ≡ 2 ^ depth = sym (pow-add 2 (depth - j) j) ∙ ap (λ x. 2 ^ x) (let q : depth - j + j ≡ depth = omega arith in q) in
          (div-lt_iff_lt-mul {k = 2 ^ j} {x = n} {y = 2 ^ (depth - j)} (one-le-pow j 2 (omega arith))).1 (omega arith)

      node_sound : (j m : ℕ) → j ≤ depth → m < 2 ^ (depth - j) → SoundNode k (node_at k h closing lines j m)
      node_sound j m g s =
          (node_digest j m, below (depth - j) j m s (subst (λ x. T (k.writable (node_at k h closing lines x 0).amount)) (let q : depth ≡ j + (depth - j) = omega arith in q) whole))

      steps_sound : (more j : ℕ) → more + j ≡ depth → SoundNodes k (steps_beside k h closing lines n more j)
      steps_sound zero j e = tt
      steps_sound (suc more) j e =
          let d : depth - j ≡ suc more = omega arith in
          let m = n / 2 ^ j in
          let a : m < 2 ^ suc more = subst (λ x. m < 2 ^ x) d (low j (omega arith)) in
          (node_sound j (beside m) (omega arith) (subst (λ x. beside m < 2 ^ x) (sym d) (beside_low m more a)), steps_sound more (suc j) (omega arith))

      pub steps_count : (more j : ℕ) → length (steps_beside k h closing lines n more j) ≡ more
      steps_count zero j = refl
      steps_count (suc more) j = ap suc (steps_count more (suc j))

      path_writable : (j : ℕ) → j ≤ depth → T (k.writable (path_node k h closing (line_file k h closing lines depth n l) j).amount)
      path_writable j g = subst (λ x. T (k.writable x.amount)) (sym (path j g)) (node_sound j (n / 2 ^ j) g (low j g)).1

      joins_from : (more j : ℕ) → more + j ≡ depth → first_from (join_refusal_at k h closing (line_file k h closing lines depth n l)) more (step_index j) ≡ None
      joins_from zero j e = refl
      joins_from (suc more) j e =
          let f = line_file k h closing lines depth n l in
          ap (λ b. or_else (cond b None (Some (JoinUnwritable (offset_at k.width (step_index j))))) (first_from (join_refusal_at k h closing f) more (step_index (suc j))))
          (true_T (k.writable (path_node k h closing f (suc j)).amount) (path_writable (suc j) (omega arith)))
          ∙ joins_from more (suc j) (omega arith)

      joins_pass : joins_refusal k h closing depth (line_file k h closing lines depth n l) ≡ None
      joins_pass =
          ap (λ m. first_from (join_refusal_at k h closing (line_file k h closing lines depth n l)) m 0) (let q : 4 + depth ≡ suc (suc (suc (suc depth))) = omega arith in q)
          ∙ joins_from depth 0 (add-zero depth)

      top_is : path_node k h closing (line_file k h closing lines depth n l) depth ≡ node_at k h closing lines depth 0
      top_is =
          let s : n / 2 ^ depth < 2 ^ 0 = subst (λ x. n / 2 ^ depth < 2 ^ x) (let q : depth - depth ≡ 0 = omega arith in q) (low depth (omega arith)) in
          path depth (omega arith) ∙ ap (node_at k h closing lines depth) (let q : n / 2 ^ depth ≡ 0 = omega arith in q)

      -- a customer number and a salt have 16 bytes each
      module _ (good : bad_limits closing depth ≡ false) (customer : length l.customer ≡ 16) (salt : length l.salt ≡ 16) where
        pub fits : Fits k (line_file k h closing lines depth n l)
        fits = record {
          leaf_small = (let m : 2 ^ depth ≤ 2 ^ 20 = pow_mono (shallow depth closing good) in omega arith);
          customer_long = customer;
          salt_long = salt;
          balance_writable = fit n l is;
          steps_sound = steps_sound depth 0 (add-zero depth);
        }

        pub said : file_of k depth (file_bytes k h closing depth (line_file k h closing lines depth n l)) ≡ line_file k h closing lines depth n l
        said =
            let f = line_file k h closing lines depth n l in
            subst (λ d. file_of k d (file_bytes k h closing d f) ≡ f) (steps_count depth 0) (file_back k laws h closing f fits)

        pub read : read_sheet k h (sheet_bytes k h (ledger_sheet k h closing lines depth)) ≡ Some (ledger_sheet k h closing lines depth)
        read = (reads_back k laws h (ledger_sheet k h closing lines depth) (node_digest depth 0) whole good).1

        pub passes : check_refusal k h (sheet_bytes k h (ledger_sheet k h closing lines depth)) (file_bytes k h closing depth (line_file k h closing lines depth n l)) ≡ None
        passes =
            let f = line_file k h closing lines depth n l in
            let t = ledger_sheet k h closing lines depth in
            let s = file_bytes k h closing depth f in
            let count : length f.steps ≡ depth = steps_count depth 0 in
            let long : length s ≡ file_length k.width depth = subst (λ d. length (file_bytes k h closing d f) ≡ file_length k.width d) count (file_long k laws h closing f fits) in
            let amounts : amounts_refusal k depth s ≡ None = subst (λ d. amounts_refusal k d (file_bytes k h closing d f) ≡ None) count (amounts_pass k laws h closing f fits) in
            let back = reads_back k laws h t (node_digest depth 0) whole good in
            neither _ _ back.0 (ap (λ o. under k h o s) back.1
            ∙ unrefused k h t s f (shallow depth closing good) long refl said inside amounts joins_pass top_is)

pub nth_inside : (lines : List Line) (n : ℕ) (l : Line) → slice_get lines n ≡ Some l → n < length lines
nth_inside [] n l e = absurd (let z : ◌≡◌ {A = ℕ} 0 1 = cc in omega arith)
nth_inside (x ∷ lines) zero l e = omega arith
nth_inside (x ∷ lines) (suc n) l e = let i = nth_inside lines n l e in omega arith

-- what a call answers that is not refused
pub answered : {X : Type 0} (place : X → ℕ) (k : Kind) → Laws k → (h : Hash) → HashLaws h → (sheet file : List ℕ) (r : Result X Refusal)
    → Answers r (check_refusal k h sheet file) (λ p. (t : Sheet) → read_sheet k h sheet ≡ Some t → (place p ≡ leaf_place k t file) × T (k.under (file_of k t.depth file).line.balance t.root.amount) × (file_bytes k h t.closing t.depth (file_of k t.depth file) ≡ file))
    → (closing depth n : ℕ) (lines : List Line) (l : Line) → Ledger k closing depth lines → slice_get lines n ≡ Some l
    → sheet ≡ sheet_bytes k h (ledger_sheet k h closing lines depth) → file ≡ file_bytes k h closing depth (line_file k h closing lines depth n l)
    → IsOkAnd r (λ p. place p ≡ 2 ^ depth + n)
answered {X = X} place k laws h hashes sheet file r a closing depth n lines l ledger is p q =
    let fit : (m : ℕ) (x : Line) → slice_get lines m ≡ Some x → T (k.writable x.balance) = λ m x e. (ledger.lines_fit m x e).balance_writable in
    let inside : n < 2 ^ depth = (let i = nth_inside lines n l is in let j = ledger.lines_few in omega arith) in
    let whole : T (k.writable (node_at k h closing lines depth 0).amount) =
    subst (λ m. T (k.writable m)) (sym (root_total laws h closing lines fit depth ledger.lines_few)) ledger.total_writable in
    let one = ledger.lines_fit n l is in
    let none = passes laws h hashes closing lines fit depth n l is inside whole ledger.limits_good one.customer_long one.salt_long in
    let back = read laws h hashes closing lines fit depth n l is inside whole ledger.limits_good one.customer_long one.salt_long in
    let says = said laws h hashes closing lines fit depth n l is inside whole ledger.limits_good one.customer_long one.salt_long in
    let none_here : check_refusal k h sheet file ≡ None = ap (λ x. check_refusal k h x file) p ∙ ap (check_refusal k h (sheet_bytes k h (ledger_sheet k h closing lines depth))) q ∙ none in
    let back_here : read_sheet k h sheet ≡ Some (ledger_sheet k h closing lines depth) = ap (read_sheet k h) p ∙ back in
    let leaf_here : leaf_place k (ledger_sheet k h closing lines depth) file ≡ 2 ^ depth + n = ap (λ x. 2 ^ depth + (file_of k depth x).leaf) q ∙ ap (λ x. 2 ^ depth + x.leaf) says in
    which r a none_here back_here leaf_here
  where
    which : (r : Result X Refusal) → Answers r (check_refusal k h sheet file) (λ p. (t : Sheet) → read_sheet k h sheet ≡ Some t → (place p ≡ leaf_place k t file) × T (k.under (file_of k t.depth file).line.balance t.root.amount) × (file_bytes k h t.closing t.depth (file_of k t.depth file) ≡ file))
        → check_refusal k h sheet file ≡ None → read_sheet k h sheet ≡ Some (ledger_sheet k h closing lines depth) → leaf_place k (ledger_sheet k h closing lines depth) file ≡ 2 ^ depth + n
        → IsOkAnd r (λ p. place p ≡ 2 ^ depth + n)
    which (Ok x) a none back leaf = (a.1 (ledger_sheet k h closing lines depth) back).0 ∙ leaf
    which (Err e) a none back leaf = absurd (let b : ◌≡◌ {A = Option Refusal} None (Some e) = sym none ∙ a in let z : ◌≡◌ {A = ℕ} 0 1 = cc in omega arith)
