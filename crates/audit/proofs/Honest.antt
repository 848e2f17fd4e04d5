-- Files of one ledger agree, and all of them together have the ledger's total.
use Rattle.std.proofs.Common.{◌≡◌, ℕ, zero, suc, ◌+◌, ◌*◌, ◌/◌, ◌%◌, ◌^◌, ◌<◌, Bool, true, false, cond, not, T, eqb, List, [], ◌∷◌, Some, None, Option, sym, refl, ap, ◌∙◌, subst, inl, inr, pow-suc, zero-add, div-one, arith}
use native.Mathlib.Nat.{div-div-eq-div-mul}
use Rattle.std.specs.List.{slice_get}
use Rattle.std.proofs.lemmas.Bool.{eqb-true, eqb-false, ne_eqb, eq-eqb}
use Rattle.amount.specs.Kinds.{Kind, Laws, total}
use Rattle.digest.specs.Hashes.{Hash, HashLaws}
use Rattle.node.specs.Texts.{Line, leaf_text, inner_text}
use Rattle.tree.specs.Trees.{node_at, balances_total}
use Rattle.tree.proofs.Totals.{root_total}
use Rattle.sheet.specs.Layout.{Sheet, sheet_bytes, sheet_refusal, read_sheet}
use Rattle.file.specs.Layout.{File, file_bytes}
use Rattle.file.specs.Ledgers.{Ledger, beside, ledger_sheet, line_file}
use Rattle.verify.specs.Paths.{file_of, step_at, left, right, path_node}
use Rattle.verify.specs.Checks.{under_refusal, under}
use Rattle.verify.proofs.Amounts.{or_none}
use Rattle.verify.proofs.Back.{SoundNode}
use Rattle.verify.proofs.Passing as passing
use Rattle.store.specs.Meaning.{Meaning}
use Rattle.audit.specs.Audits.{State, laid, Call, present, tally, hand_out, lay, Verdict, balances, text_at, verdict, after_verdict, next, after}
use Rattle.audit.specs.Promise.{Among, OnlyLines, Agrees, HonestAudit}
use Rattle.audit.proofs.Trees.{place_is}
use Rattle.audit.proofs.Bounds.{Agree, Pairs, keep, keep_among, among_keep, keep_pairs, turned, total_split, total_one}
use Rattle.audit.proofs.Clashes.{some_from}
use Rattle.audit.proofs.Verdicts.{said, Judged, refusing, showing, knowing, filling, counting, judged, Good, good_next}
use Rattle.audit.proofs.Holds.{good_laid}

-- Files of lines, one for each line: their balances join to the lines' total.
module _ {k : Kind} (laws : Laws k) (h : Hash) (s : Sheet) where
  -- file f is that of a line behind the first m ones
  abbrev OfLine : ℕ → List Line → File → Type 0
  OfLine m ls f = (i : ℕ) × (f.leaf ≡ m + i) × (slice_get ls i ≡ Some f.line)

  abbrev EachLine : ℕ → List Line → List File → Type 0
  EachLine m ls fs = (i : ℕ) (l : Line) → slice_get ls i ≡ Some l → (g : File) × Among g fs × (g.leaf ≡ m + i)

  single : (m : ℕ) (l : Line) → T (k.writable l.balance) → (fs : List File) → Pairs k h s fs → ((f : File) → Among f fs → (f.leaf ≡ m) × (l ≡ f.line))
      → (g : File) → Among g fs → total k (balances fs) ≡ l.balance
  single m l w [] ps each g a = absurd a
  single m l w (f ∷ []) ps each g a = ap (λ x. k.join x.balance k.zero) (sym (each f (inl refl)).1) ∙ total_one laws l.balance w
  single m l w (f ∷ e ∷ fs) ps each g a =
      absurd ((ps.0 e (inl refl)).1 (ap (λ n. (2 ^ s.depth + n) / 2 ^ 0) ((each f (inl refl)).0 ∙ sym (each e (inr (inl refl))).0)))

  at_first : (m : ℕ) (l : Line) (ls : List Line) (f : File) (i : ℕ) → f.leaf ≡ m + i → slice_get (l ∷ ls) i ≡ Some f.line → f.leaf ≡ m → l ≡ f.line
  at_first m l ls f zero e is z = cc
  at_first m l ls f (suc i) e is z = absurd (omega arith)

  behind : (m : ℕ) (l : Line) (ls : List Line) (f : File) (i : ℕ) → f.leaf ≡ m + i → slice_get (l ∷ ls) i ≡ Some f.line → (f.leaf ≡ m → ⊥) → OfLine (suc m) ls f
  behind m l ls f zero e is z = absurd (z (omega arith))
  behind m l ls f (suc i) e is z = (i, omega arith, is)

  sum_lines : (ls : List Line) (m : ℕ) (fs : List File) → ((i : ℕ) (l : Line) → slice_get ls i ≡ Some l → T (k.writable l.balance)) → Pairs k h s fs
      → ((f : File) → Among f fs → OfLine m ls f) → EachLine m ls fs → total k (balances fs) ≡ balances_total k ls
  sum_lines [] m [] w ps each all = refl
  sum_lines [] m (f ∷ fs) w ps each all = let o = (each f (inl refl)).2 in absurd (let z : ◌≡◌ {A = ℕ} 0 1 = cc in omega arith)
  sum_lines (l ∷ ls) m fs w ps each all =
      let p : File → Bool = λ f. eqb f.leaf m in
      let q : File → Bool = λ f. not (p f) in
      let one = all 0 l refl in
      let first_one : total k (balances (keep p fs)) ≡ l.balance =
      single m l (w 0 l refl) (keep p fs) (keep_pairs k h s p fs ps)
      (λ f a. let r = keep_among p fs f a in let o = each f r.0 in let z = eqb-true f.leaf m r.1 in (z, at_first m l ls f o.0 o.1 o.2 z))
      one.0 (among_keep p fs one.0 one.1 (eq-eqb one.0.leaf m (let z = one.2 in omega arith))) in
      let others : total k (balances (keep q fs)) ≡ balances_total k ls =
      sum_lines ls (suc m) (keep q fs) (λ i x e. w (suc i) x e) (keep_pairs k h s q fs ps)
      (λ f a. let r = keep_among q fs f a in let o = each f r.0 in behind m l ls f o.0 o.1 o.2 (eqb-false f.leaf m (turned (p f) r.1)))
      (λ i x e. let g = all (suc i) x e in
      (g.0, among_keep q fs g.0 g.1 (ap not (ne_eqb g.0.leaf m (apart g.0.leaf m i g.2))), let z = g.2 in omega arith)) in
      total_split laws p fs ∙ ap (λ x. k.join x (total k (balances (keep q fs)))) first_one ∙ ap (k.join l.balance) others
    where
      apart : (n m i : ℕ) → n ≡ m + suc i → n ≡ m → ⊥
      apart n m i e z = omega arith

module _ {k : Kind} (laws : Laws k) (h : Hash) (hashes : HashLaws h) (closing depth : ℕ) (lines : List Line) (ledger : Ledger k closing depth lines) where
  abbrev sheet : Sheet
  sheet = ledger_sheet k h closing lines depth

  fit : (n : ℕ) (l : Line) → slice_get lines n ≡ Some l → T (k.writable l.balance)
  fit n l e = (ledger.lines_fit n l e).balance_writable

  whole : T (k.writable (node_at k h closing lines depth 0).amount)
  whole = subst (λ m. T (k.writable m)) (sym (root_total laws h closing lines fit depth ledger.lines_few)) ledger.total_writable

  root : SoundNode k sheet.root
  root = (passing.node_digest laws h hashes closing lines fit depth 0, whole)

  module _ (n : ℕ) (l : Line) (is : slice_get lines n ≡ Some l) where
    abbrev own : File
    own = line_file k h closing lines depth n l

    inside : n < 2 ^ depth
    inside = let i = passing.nth_inside lines n l is in let j = ledger.lines_few in omega arith

    bytes_say : file_of k depth (file_bytes k h closing depth own) ≡ own
    bytes_say =
        let one = ledger.lines_fit n l is in
        passing.said laws h hashes closing lines fit depth n l is inside whole ledger.limits_good one.customer_long one.salt_long

    pub line_passes : under_refusal k h sheet (file_bytes k h closing depth own) ≡ None
    line_passes =
        let one = ledger.lines_fit n l is in
        let none = passing.passes laws h hashes closing lines fit depth n l is inside whole ledger.limits_good one.customer_long one.salt_long in
        let back = passing.read laws h hashes closing lines fit depth n l is inside whole ledger.limits_good one.customer_long one.salt_long in
        ap (λ o. under k h o (file_bytes k h closing depth own)) (sym back)
        ∙ (or_none (sheet_refusal k h (sheet_bytes k h sheet)) (under k h (read_sheet k h (sheet_bytes k h sheet)) (file_bytes k h closing depth own)) none).1

    own_is : (j : ℕ) → j < depth → path_node k h closing own j ≡ node_at k h closing lines j (n / 2 ^ j)
    own_is j b = passing.path laws h hashes closing lines fit depth n l is j (omega arith)

    step_is : (j : ℕ) → j < depth → step_at own j ≡ node_at k h closing lines j (beside (n / 2 ^ j))
    step_is j b =
        passing.steps_at laws h hashes closing lines fit depth n l is depth 0 j b
        ∙ ap (λ x. node_at k h closing lines x (beside (n / 2 ^ x))) (zero-add j)

    -- below a place of the path stand the tree's two nodes
    abbrev Children : ℕ → ℕ → Type 0
    Children j x =
        (left own j (path_node k h closing own j) ≡ node_at k h closing lines j (2 * x)) × (right own j (path_node k h closing own j) ≡ node_at k h closing lines j (2 * x + 1))

    children : (j : ℕ) → j < depth → Children j (n / 2 ^ suc j)
    children j b =
        let half : n / 2 ^ j / 2 ≡ n / 2 ^ suc j = div-div-eq-div-mul n (2 ^ j) 2 ∙ ap (λ x. n / x) (sym (pow-suc 2 j)) in
        subst (Children j) half (which (eqb (n / 2 ^ j % 2) 0) refl)
      where
        which : (c : Bool) → eqb (n / 2 ^ j % 2) 0 ≡ c
            → (cond c (path_node k h closing own j) (step_at own j) ≡ node_at k h closing lines j (2 * (n / 2 ^ j / 2)))
            × (cond c (step_at own j) (path_node k h closing own j) ≡ node_at k h closing lines j (2 * (n / 2 ^ j / 2) + 1))
        which true e = (
          own_is j b ∙ ap (node_at k h closing lines j) (sym (passing.even (n / 2 ^ j) e)),
          step_is j b ∙ ap (node_at k h closing lines j) (passing.beside_even (n / 2 ^ j) e),
        )
        which false e = (
          step_is j b ∙ ap (node_at k h closing lines j) (passing.beside_odd (n / 2 ^ j) e),
          own_is j b ∙ ap (node_at k h closing lines j) (sym (passing.odd (n / 2 ^ j) e)),
        )

    text_is : (j : ℕ) → j < depth → text_at k h sheet own (suc j)
        ≡ inner_text k (node_at k h closing lines j (2 * (n / 2 ^ suc j))) (node_at k h closing lines j (2 * (n / 2 ^ suc j) + 1))
    text_is j b =
        let c = children j b in
        ap (λ x. inner_text k x (right own j (path_node k h closing own j))) c.0 ∙ ap (inner_text k (node_at k h closing lines j (2 * (n / 2 ^ suc j)))) c.1

  -- the files of two lines agree
  lines_agree : (n : ℕ) (l : Line) → slice_get lines n ≡ Some l → (m : ℕ) (r : Line) → slice_get lines m ≡ Some r
      → Agree k h sheet (line_file k h closing lines depth n l) (line_file k h closing lines depth m r)
  lines_agree n l p m r q zero b e =
      let i : n ≡ m = (let a = div-one (2 ^ depth + n) in let c = div-one (2 ^ depth + m) in omega arith) in
      let o : ◌≡◌ {A = Option Line} (Some l) (Some r) = sym p ∙ ap (slice_get lines) i ∙ q in
      let x : l ≡ r = cc in
      ap (leaf_text k closing) x
  lines_agree n l p m r q (suc j) b e =
      let i : n / 2 ^ suc j ≡ m / 2 ^ suc j = (let a = place_is depth (suc j) n b in let c = place_is depth (suc j) m b in omega arith) in
      text_is n l p j b
      ∙ ap (λ x. inner_text k (node_at k h closing lines j (2 * x)) (node_at k h closing lines j (2 * x + 1))) i
      ∙ sym (text_is m r q j b)

  -- bytes of a line's file
  abbrev OfLedger : List ℕ → Type 0
  OfLedger bytes = (n : ℕ) × (l : Line) × (slice_get lines n ≡ Some l) × (bytes ≡ file_bytes k h closing depth (line_file k h closing lines depth n l))

  says : (bytes : List ℕ) (o : OfLedger bytes) → file_of k depth bytes ≡ line_file k h closing lines depth o.0 o.1
  says bytes o = ap (file_of k depth) o.3 ∙ bytes_say o.0 o.1 o.2

  module _ (nodes leaves : Meaning) where
    abbrev Fair : State → Type 0
    Fair a = Good k h sheet nodes leaves OfLedger a × (a.shown ≡ None)

    no_texts : (a : State) → Fair a → (bytes : List ℕ) → OfLedger bytes → (v : Verdict) → Judged k h sheet nodes leaves a bytes v
        → (after_verdict k h sheet nodes leaves a (said k h sheet nodes leaves bytes) v).shown ≡ None
    no_texts a fair bytes o v (refusing r n) = fair.1
    no_texts a fair bytes o v (filling e) = fair.1
    no_texts a fair bytes o v (knowing q c t) = fair.1
    no_texts a fair bytes o v (counting n q c t) = fair.1
    no_texts a fair bytes o v (showing t q c) =
        let x = some_from k h sheet a.counted (file_of k depth bytes) depth t c in
        let came = fair.0.came x.other x.among in
        let w = came.presented in
        let agree : Agree k h sheet x.other (file_of k depth bytes) =
        subst (λ g. Agree k h sheet g (file_of k depth bytes)) (sym (came.is ∙ says came.bytes w))
        (subst (Agree k h sheet (line_file k h closing lines depth w.0 w.1)) (sym (says bytes o)) (lines_agree w.0 w.1 w.2 o.0 o.1 o.2)) in
        absurd (x.differ (x.stored_is ∙ agree x.height x.within x.meet ∙ sym x.offered_is))

    fair_next : (a : State) → Fair a → (c : Call) → ((bytes : List ℕ) → present bytes ≡ c → OfLedger bytes) → (next k h sheet nodes leaves a c).shown ≡ None
    fair_next a fair (present bytes) p = no_texts a fair bytes (p bytes refl) (verdict k h sheet nodes leaves a bytes) (judged k h sheet nodes leaves a bytes)
    fair_next a fair tally p = fair.1
    fair_next a fair (hand_out buffer) p = fair.1
    fair_next a fair (lay s) p = fair.1

    fair_after : (calls : List Call) (a : State) → Fair a → OnlyLines k h closing depth lines calls → Fair (after k h sheet nodes leaves a calls)
    fair_after [] a fair p = fair
    fair_after (c ∷ calls) a fair p =
        fair_after calls (next k h sheet nodes leaves a c)
        (good_next k h sheet nodes leaves laws hashes root OfLedger a fair.0 c (λ bytes e. p bytes (inl e)), fair_next a fair c (λ bytes e. p bytes (inl e)))
        (λ bytes m. p bytes (inr m))

    agrees : (calls : List Call) → OnlyLines k h closing depth lines calls → Agrees k h closing depth lines (after k h sheet nodes leaves laid calls)
    agrees calls p =
        let a = after k h sheet nodes leaves laid calls in
        let fair = fair_after calls laid (good_laid k h sheet nodes leaves OfLedger, refl) p in
        record {
          none_shown = fair.1;
          reaches_total = λ all.
              sum_lines laws h sheet lines 0 a.counted fit fair.0.pairs
              (λ f m. let c = fair.0.came f m in let w = c.presented in
              let e = c.is ∙ says c.bytes w in
              (w.0, ap (λ x. x.leaf) e ∙ sym (zero-add w.0), w.2 ∙ ap (λ x. Some x.line) (sym e)))
              (λ i l e. (line_file k h closing lines depth i l, all i l e, sym (zero-add i)))
              ∙ sym (root_total laws h closing lines fit depth ledger.lines_few);
        }

pub honest_audit : HonestAudit
honest_audit k laws h hashes closing depth lines ledger nodes leaves calls p = agrees laws h hashes closing depth lines ledger nodes leaves calls p
