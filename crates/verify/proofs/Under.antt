-- A file that passes has its balance under the total.
use Rattle.std.proofs.Common.{◌≡◌, ℕ, zero, suc, ◌+◌, ◌<◌, ◌≤◌, Bool, true, false, cond, not, T, eqb, ltb, List, [], ◌∷◌, length, get_or, take, drop, is_some, Some, None, Option, unwrap_or, sym, refl, ap, ◌∙◌, subst, zero-add, arith, eqb→eq, length-drop, length-take}
use Rattle.std.specs.Option.{option_map}
use Rattle.octets.specs.BigEndian.{value}
use Rattle.std.proofs.lemmas.List.{drop_at}
use Rattle.octets.specs.Tests.{same}
use Rattle.octets.proofs.Passes.{T_true, same_out}
use Rattle.refusal.specs.declared.cases.Refusal.{Refusal}
use Rattle.refusal.specs.declared.cases.Refusal.TheVariants.{BadAmount, BadLimits, JoinUnwritable, RootDiffers, SheetLength}
use Rattle.refusal.specs.Tables.{◌⇒◌, first}
use Rattle.amount.specs.Kinds.{Kind, Laws}
use Rattle.amount.proofs.Joins.{under_left, under_right}
use Rattle.digest.specs.Hashes.{Hash, HashLaws}
use Rattle.node.specs.Texts.{Node, node_bytes}
use Rattle.sheet.specs.Layout.{Sheet, sheet_refusal, read_sheet}
use Rattle.file.specs.Layout.{File}
use Rattle.file.specs.Fields.{offset_at, step_index, field_bytes}
use Rattle.verify.specs.Paths.{amount_of, step_of, file_of, step_at, is_left, path_node}
use Rattle.verify.specs.Checks.{or_else, field_refusal, shape_refusal, amounts_refusal, join_refusal_at, joins_refusal, top_refusal, file_refusal, under_refusal}
use Rattle.verify.proofs.Amounts.{or_none, none_at}
use Rattle.verify.proofs.Climbs.{steps_at}

-- an amount that is there
there : (k : Kind) → Laws k → (s : List ℕ) → is_some (k.read s) ≡ true → T (k.writable (amount_of k s))
there k laws s e = found (k.read s) refl e
  where
    found : (o : Option (List ℕ)) → k.read s ≡ o → is_some o ≡ true → T (k.writable (unwrap_or o []))
    found None r f = absurd (let z : ◌≡◌ {A = ℕ} 0 1 = cc in omega arith)
    found (Some m) r f = (laws.read_only s m r).0

pub unless : (b : Bool) (r : Refusal) → cond b None (Some r) ≡ None → b ≡ true
unless true r e = refl
unless false r e = absurd (let z : ◌≡◌ {A = ℕ} 0 1 = cc in omega arith)

-- what is not refused has writable amounts
pub balance_there : (k : Kind) → Laws k → (depth : ℕ) (s : List ℕ) → amounts_refusal k depth s ≡ None → T (k.writable (file_of k depth s).line.balance)
balance_there k laws depth s e = there k laws (field_bytes k.width s 3) (unless (is_some (k.read (field_bytes k.width s 3))) (BadAmount 43) (none_at (field_refusal k s) (4 + depth) 3 e (omega arith)))

pub step_there : (k : Kind) → Laws k → (depth : ℕ) (s : List ℕ) → amounts_refusal k depth s ≡ None → (j : ℕ) → j < depth → T (k.writable (step_at (file_of k depth s) j).amount)
step_there k laws depth s e j h =
    let p = none_at (field_refusal k s) (4 + depth) (step_index j) e (omega arith) in
    let w = there k laws (drop 32 (field_bytes k.width s (step_index j))) (unless (is_some (k.read (drop 32 (field_bytes k.width s (step_index j))))) (BadAmount (offset_at k.width (step_index j) + 32)) p) in
    let q = steps_at k s depth 0 j (record { digest = []; amount = [] }) h ∙ ap (step_of k s) (zero-add j) in
    subst (λ n. T (k.writable n.amount)) (sym q) w

-- one of two, whichever side it stands on
pub side_under : (k : Kind) → Laws k → (b : Bool) (x y : Node) → length x.amount ≡ k.count → length y.amount ≡ k.count → T (k.under x.amount (k.join (cond b x y).amount (cond b y x).amount))
side_under k laws true x y p q = under_left laws x.amount y.amount p q
side_under k laws false x y p q = under_right laws y.amount x.amount q p

pub side_count : (k : Kind) → Laws k → (b : Bool) (x y : Node) → length x.amount ≡ k.count → length y.amount ≡ k.count → length (k.join (cond b x y).amount (cond b y x).amount) ≡ k.count
side_count k laws true x y p q = laws.join_count x.amount y.amount p q
side_count k laws false x y p q = laws.join_count y.amount x.amount q p

module _ (k : Kind) (laws : Laws k) (h : Hash) (hashes : HashLaws h) (closing depth : ℕ) (f : File)
    (balance : T (k.writable f.line.balance)) (steps : (j : ℕ) → j < depth → T (k.writable (step_at f j).amount)) where
  pub node_count : (j : ℕ) → j ≤ depth → length (path_node k h closing f j).amount ≡ k.count
  node_count zero l = laws.writable_count f.line.balance balance
  node_count (suc j) l =
      side_count k laws (is_left f j) (path_node k h closing f j) (step_at f j) (node_count j (omega arith)) (laws.writable_count (step_at f j).amount (steps j (omega arith)))

  pub under_path : (j : ℕ) → j ≤ depth → T (k.under f.line.balance (path_node k h closing f j).amount)
  under_path zero l = laws.under_refl f.line.balance
  under_path (suc j) l =
      laws.under_trans f.line.balance (path_node k h closing f j).amount (path_node k h closing f (suc j)).amount (under_path j (omega arith))
      (side_under k laws (is_left f j) (path_node k h closing f j) (step_at f j) (node_count j (omega arith)) (laws.writable_count (step_at f j).amount (steps j (omega arith))))

  pub digest_long : (j : ℕ) → length (path_node k h closing f j).digest ≡ 32
  digest_long zero = hashes.of_length _
  digest_long (suc j) = hashes.of_length _

  pub top_writable : (d : ℕ) → d ≡ depth → joins_refusal k h closing depth f ≡ None → T (k.writable (path_node k h closing f d).amount)
  top_writable zero e j = balance
  top_writable (suc d) e j =
      let p = none_at (join_refusal_at k h closing f) (4 + depth) (step_index d) j (omega arith) in
      T_true (k.writable (path_node k h closing f (suc d)).amount) (unless (k.writable (path_node k h closing f (suc d)).amount) (JoinUnwritable (offset_at k.width (step_index d))) p)

  -- the top is the root
  pub total_over : (root : Node) → length root.digest ≡ 32 → T (k.writable root.amount) → joins_refusal k h closing depth f ≡ None
      → T (same (node_bytes k (path_node k h closing f depth)) (node_bytes k root)) → T (k.under f.line.balance root.amount)
  total_over root l w j t =
      let top = path_node k h closing f depth in
      let e = same_out (node_bytes k top) (node_bytes k root) t in
      let b : k.bytes top.amount ≡ k.bytes root.amount =
      sym (drop_at top.digest (k.bytes top.amount) 32 (digest_long depth)) ∙ ap (drop 32) e ∙ drop_at root.digest (k.bytes root.amount) 32 l in
      let a = laws.bytes_injective top.amount root.amount (top_writable depth refl j) w b in
      subst (λ m. T (k.under f.line.balance m)) a (under_path depth (omega arith))

pub root_same : (b : Bool) → first ((not b ⇒ RootDiffers) ∷ []) ≡ None → T b
root_same true e = tt
root_same false e = absurd (let z : ◌≡◌ {A = ℕ} 0 1 = cc in omega arith)

-- what a passing check says of the balance
pub passes_under : (k : Kind) → Laws k → (h : Hash) → HashLaws h → (s : Sheet) (bytes : List ℕ) → length s.root.digest ≡ 32 → T (k.writable s.root.amount)
    → under_refusal k h s bytes ≡ None → T (k.under (file_of k s.depth bytes).line.balance s.root.amount)
passes_under k laws h hashes s bytes l w e =
    let a = or_none (first ((ltb 20 s.depth ⇒ BadLimits) ∷ [])) (file_refusal k h s bytes) e in
    let f = file_of k s.depth bytes in
    let b = or_none (shape_refusal k h s bytes) (or_else (amounts_refusal k s.depth bytes) (or_else (joins_refusal k h s.closing s.depth f) (top_refusal k h s f))) a.1 in
    let c = or_none (amounts_refusal k s.depth bytes) (or_else (joins_refusal k h s.closing s.depth f) (top_refusal k h s f)) b.1 in
    let d = or_none (joins_refusal k h s.closing s.depth f) (top_refusal k h s f) c.1 in
    total_over k laws h hashes s.closing s.depth f (balance_there k laws s.depth bytes c.0) (step_there k laws s.depth bytes c.0) s.root l w d.0
    (root_same (same (node_bytes k (path_node k h s.closing f s.depth)) (node_bytes k s.root)) d.1)

-- a sheet that is read: its root's digest has 32 bytes, and its total can be written
pub row_past : (b : Bool) (r : Refusal) (rest : Option Refusal) → cond b (Some r) rest ≡ None → b ≡ false
row_past true r rest e = absurd (let z : ◌≡◌ {A = ℕ} 0 1 = cc in omega arith)
row_past false r rest e = refl

pub not_not : (b : Bool) → not b ≡ false → T b
not_not true e = tt
not_not false e = absurd (let z : ◌≡◌ {A = ℕ} 0 1 = cc in omega arith)

pub sheet_root : (k : Kind) → Laws k → (h : Hash) (sheet : List ℕ) (s : Sheet) → sheet_refusal k h sheet ≡ None → read_sheet k h sheet ≡ Some s → (length s.root.digest ≡ 32) × T (k.writable s.root.amount)
sheet_root k laws h sheet s e r = found (k.read (drop 32 (drop 7 sheet))) refl r
  where
    long : length sheet ≡ 39 + k.width
    long = eqb→eq (length sheet) (39 + k.width) (not_not (eqb (length sheet) (39 + k.width)) (row_past (not (eqb (length sheet) (39 + k.width))) SheetLength _ e))

    found : (o : Option (List ℕ)) → k.read (drop 32 (drop 7 sheet)) ≡ o
        → option_map (λ (n : Node). record { closing = value (take 4 (drop 3 sheet)); depth = get_or sheet 2 0; root = n }) (option_map (λ (a : List ℕ). record { digest = take 32 (drop 7 sheet); amount = a }) o) ≡ Some s
        → (length s.root.digest ≡ 32) × T (k.writable s.root.amount)
    found None p q = absurd (let z : ◌≡◌ {A = ℕ} 0 1 = cc in omega arith)
    found (Some m) p q =
        let d : record { closing = value (take 4 (drop 3 sheet)); depth = get_or sheet 2 0; root = record { digest = take 32 (drop 7 sheet); amount = m } } ≡ s = cc in
        let l : length (take 32 (drop 7 sheet)) ≡ 32 = simp (length-take, length-drop) (omega (arith, long)) in
        subst (λ x. (length x.root.digest ≡ 32) × T (k.writable x.root.amount)) d (l, (laws.read_only (drop 32 (drop 7 sheet)) m p).0)
