-- A file is the bytes of what it says.
use Rattle.std.proofs.Common.{◌≡◌, ℕ, zero, suc, ◌+◌, ◌*◌, ◌^◌, ◌<◌, true, cond, not, T, eqb, ltb, leb, List, [], ◌∷◌, ◌++◌, length, get_or, take, drop, is_some, Some, None, Ok, Err, Option, Result, unwrap_or, sym, refl, ap, ◌∙◌, subst, add-zero, suc-mul, zero-mul, arith, eqb→eq, length-drop, take-append-drop, take_all, take-add}
use Rattle.std.proofs.lemmas.List.{drop-drop}
use Rattle.refusal.specs.declared.cases.Refusal.{Refusal}
use Rattle.octets.specs.BigEndian.{be, value}
use Rattle.amount.specs.Kinds.{Kind, Laws}
use Rattle.digest.specs.Hashes.{Hash, HashLaws}
use Rattle.node.specs.Texts.{node_bytes}
use Rattle.octets.specs.Tests.{same}
use Rattle.octets.proofs.Passes.{same_out}
use Rattle.refusal.specs.declared.cases.Refusal.TheVariants.{BadAmount, BadLimits, FileLength, OtherSheet, LeafOutside}
use Rattle.refusal.specs.Tables.{◌⇒◌, first, Answers}
use Rattle.sheet.specs.Layout.{Sheet, head, sheet_refusal, read_sheet}
use Rattle.sheet.proofs.Rows.{four_back, bytes_behind}
use Rattle.file.specs.Layout.{file_bytes, file_length, steps_bytes}
use Rattle.file.specs.Fields.{offset_at, step_index, field_bytes}
use Rattle.verify.specs.Paths.{amount_of, step_of, steps_of, file_of}
use Rattle.verify.specs.Checks.{or_else, field_refusal, shape_refusal, amounts_refusal, joins_refusal, top_refusal, file_refusal, under_refusal, under, check_refusal, leaf_place}
use Rattle.verify.proofs.Amounts.{or_none, none_at}
use Rattle.verify.proofs.Under.{unless, row_past, not_not, sheet_root, passes_under}

-- an amount read and written again
again : (k : Kind) → Laws k → (s : List ℕ) → is_some (k.read s) ≡ true → k.bytes (amount_of k s) ≡ s
again k laws s e = found (k.read s) refl e
  where
    found : (o : Option (List ℕ)) → k.read s ≡ o → is_some o ≡ true → k.bytes (unwrap_or o []) ≡ s
    found None r f = absurd (let z : ◌≡◌ {A = ℕ} 0 1 = cc in omega arith)
    found (Some m) r f = (laws.read_only s m r).1

-- a step read and written again
step_bytes : (k : Kind) → Laws k → (s : List ℕ) (j : ℕ) → is_some (k.read (drop 32 (field_bytes k.width s (step_index j)))) ≡ true → node_bytes k (step_of k s j) ≡ field_bytes k.width s (step_index j)
step_bytes k laws s j e =
    let f = field_bytes k.width s (step_index j) in
    ap (λ b. take 32 f ++ b) (again k laws (drop 32 f) e) ∙ take-append-drop 32 f

module _ (k : Kind) (laws : Laws k) (s : List ℕ) (depth : ℕ) (amounts : amounts_refusal k depth s ≡ None) where
  steps_whole : (more j : ℕ) → more + j ≡ depth → steps_bytes k (steps_of k s more j) ≡ take (more * (32 + k.width)) (drop (43 + k.width + j * (32 + k.width)) s)
  steps_whole zero j e = ap (λ m. take m (drop (43 + k.width + j * (32 + k.width)) s)) (sym (zero-mul (32 + k.width)))
  steps_whole (suc more) j e =
      let w = 32 + k.width in
      let at = 43 + k.width + j * w in
      let p = none_at (field_refusal k s) (4 + depth) (step_index j) amounts (omega arith) in
      let there = unless (is_some (k.read (drop 32 (field_bytes k.width s (step_index j))))) (BadAmount (offset_at k.width (step_index j) + 32)) p in
      let next : 43 + k.width + suc j * w ≡ at + w = omega (arith, suc-mul j w) in
      ap (λ b. b ++ steps_bytes k (steps_of k s more (suc j))) (step_bytes k laws s j there)
      ∙ ap (λ b. take w (drop at s) ++ b) (steps_whole more (suc j) (omega arith) ∙ ap (λ m. take (more * w) (drop m s)) next ∙ ap (take (more * w)) (sym (drop-drop w at s)))
      ∙ sym (take-add w (more * w) (drop at s))
      ∙ ap (λ m. take m (drop at s)) (let q : w + more * w ≡ suc more * w = omega (arith, suc-mul more w) in q)

-- the parts of a file in front of its steps
front : (w : ℕ) (s : List ℕ) → take 7 s ++ (take 4 (drop 7 s) ++ (take 16 (drop 11 s) ++ (take 16 (drop 27 s) ++ (take w (drop 43 s) ++ drop (43 + w) s)))) ≡ s
front w s =
    let e : take w (drop 43 s) ++ drop (43 + w) s ≡ drop 43 s = ap (λ t. take w (drop 43 s) ++ t) (sym (drop-drop w 43 s)) ∙ take-append-drop w (drop 43 s) in
    let d : take 16 (drop 27 s) ++ drop 43 s ≡ drop 27 s = ap (λ t. take 16 (drop 27 s) ++ t) (sym (drop-drop 16 27 s)) ∙ take-append-drop 16 (drop 27 s) in
    let c : take 16 (drop 11 s) ++ drop 27 s ≡ drop 11 s = ap (λ t. take 16 (drop 11 s) ++ t) (sym (drop-drop 16 11 s)) ∙ take-append-drop 16 (drop 11 s) in
    let b : take 4 (drop 7 s) ++ drop 11 s ≡ drop 7 s = ap (λ t. take 4 (drop 7 s) ++ t) (sym (drop-drop 4 7 s)) ∙ take-append-drop 4 (drop 7 s) in
    ap (λ t. take 7 s ++ (take 4 (drop 7 s) ++ (take 16 (drop 11 s) ++ (take 16 (drop 27 s) ++ t)))) e
    ∙ ap (λ t. take 7 s ++ (take 4 (drop 7 s) ++ (take 16 (drop 11 s) ++ t))) d
    ∙ ap (λ t. take 7 s ++ (take 4 (drop 7 s) ++ t)) c ∙ ap (λ t. take 7 s ++ t) b ∙ take-append-drop 7 s

pub file_whole : (k : Kind) → Laws k → (h : Hash) (closing depth : ℕ) (s : List ℕ) → ((i : ℕ) → get_or s i 0 < 256) → length s ≡ file_length k.width depth
    → take 7 s ≡ head k h closing depth → amounts_refusal k depth s ≡ None → file_bytes k h closing depth (file_of k depth s) ≡ s
file_whole k laws h closing depth s bytes long headed amounts =
    let w = k.width in
    let l : be 4 (value (take 4 (drop 7 s))) ≡ take 4 (drop 7 s) = four_back (drop 7 s) (simp length-drop (omega arith)) (λ i. bytes_behind 7 s bytes i) in
    let b : k.bytes (amount_of k (field_bytes w s 3)) ≡ take w (drop 43 s) =
    again k laws (field_bytes w s 3) (unless (is_some (k.read (field_bytes w s 3))) (BadAmount 43) (none_at (field_refusal k s) (4 + depth) 3 amounts (omega arith))) in
    let t : steps_bytes k (steps_of k s depth 0) ≡ drop (43 + w) s =
    steps_whole k laws s depth amounts depth 0 (add-zero depth)
    ∙ ap (λ m. take (depth * (32 + w)) (drop m s)) (let q : 43 + w + 0 * (32 + w) ≡ 43 + w = omega (arith, zero-mul (32 + w)) in q)
    ∙ take_all (depth * (32 + w)) (drop (43 + w) s) (simp length-drop (omega arith)) in
    ap (λ x. x ++ (be 4 (value (take 4 (drop 7 s))) ++ (take 16 (drop 11 s) ++ (take 16 (drop 27 s) ++ (k.bytes (amount_of k (field_bytes w s 3)) ++ steps_bytes k (steps_of k s depth 0)))))) (sym headed)
    ∙ ap (λ x. take 7 s ++ (x ++ (take 16 (drop 11 s) ++ (take 16 (drop 27 s) ++ (k.bytes (amount_of k (field_bytes w s 3)) ++ steps_bytes k (steps_of k s depth 0)))))) l
    ∙ ap (λ x. take 7 s ++ (take 4 (drop 7 s) ++ (take 16 (drop 11 s) ++ (take 16 (drop 27 s) ++ (x ++ steps_bytes k (steps_of k s depth 0)))))) b
    ∙ ap (λ x. take 7 s ++ (take 4 (drop 7 s) ++ (take 16 (drop 11 s) ++ (take 16 (drop 27 s) ++ (take w (drop 43 s) ++ x))))) t
    ∙ front w s

-- what a passing check says of the bytes
pub passes_whole : (k : Kind) → Laws k → (h : Hash) (s : Sheet) (bytes : List ℕ) → ((i : ℕ) → get_or bytes i 0 < 256) → under_refusal k h s bytes ≡ None
    → file_bytes k h s.closing s.depth (file_of k s.depth bytes) ≡ bytes
passes_whole k laws h s bytes small e =
    let a = or_none (first ((ltb 20 s.depth ⇒ BadLimits) ∷ [])) (file_refusal k h s bytes) e in
    let f = file_of k s.depth bytes in
    let b = or_none (shape_refusal k h s bytes) (or_else (amounts_refusal k s.depth bytes) (or_else (joins_refusal k h s.closing s.depth f) (top_refusal k h s f))) a.1 in
    let c = or_none (amounts_refusal k s.depth bytes) (or_else (joins_refusal k h s.closing s.depth f) (top_refusal k h s f)) b.1 in
    let x = not (eqb (length bytes) (file_length k.width s.depth)) in
    let y = not (same (take 7 bytes) (head k h s.closing s.depth)) in
    let z = first ((leb (2 ^ s.depth) f.leaf ⇒ LeafOutside) ∷ []) in
    let p = row_past x FileLength (cond y (Some OtherSheet) z) b.0 in
    let q : cond y (Some OtherSheet) z ≡ None = ap (λ m. cond m (Some FileLength) (cond y (Some OtherSheet) z)) (sym p) ∙ b.0 in
    let r = row_past y OtherSheet z q in
    file_whole k laws h s.closing s.depth bytes small
    (eqb→eq (length bytes) (file_length k.width s.depth) (not_not (eqb (length bytes) (file_length k.width s.depth)) p))
    (same_out (take 7 bytes) (head k h s.closing s.depth) (not_not (same (take 7 bytes) (head k h s.closing s.depth)) r)) c.0

some_sheet : (s t : Sheet) → ◌≡◌ {A = Option Sheet} (Some s) (Some t) → s ≡ t
some_sheet s t e = cc

-- the check of bytes from the check under the sheet that they are
pub checked : {X : Type 0} (place : X → ℕ) (k : Kind) → Laws k → (h : Hash) → HashLaws h → (sheet file : List ℕ) (s : Sheet) (r : Result X Refusal) → ((i : ℕ) → get_or file i 0 < 256)
    → sheet_refusal k h sheet ≡ None → read_sheet k h sheet ≡ Some s → Answers r (under_refusal k h s file) (λ p. place p ≡ leaf_place k s file)
    → Answers r (check_refusal k h sheet file)
    (λ p. (t : Sheet) → read_sheet k h sheet ≡ Some t → (place p ≡ leaf_place k t file) × T (k.under (file_of k t.depth file).line.balance t.root.amount)
    × (file_bytes k h t.closing t.depth (file_of k t.depth file) ≡ file))
checked place k laws h hashes sheet file s (Ok p) small e r a = (
  ap (λ x. or_else x (under k h (read_sheet k h sheet) file)) e ∙ ap (λ x. under k h x file) r ∙ a.0,
  λ t q.
      let same_sheet = some_sheet s t (sym r ∙ q) in
      let root = sheet_root k laws h sheet s e r in
      subst (λ x. (place p ≡ leaf_place k x file) × T (k.under (file_of k x.depth file).line.balance x.root.amount)
      × (file_bytes k h x.closing x.depth (file_of k x.depth file) ≡ file)) same_sheet
      (a.1, passes_under k laws h hashes s file root.0 root.1 a.0, passes_whole k laws h s file small a.0),
)
checked place k laws h hashes sheet file s (Err y) small e r a =
    ap (λ x. or_else x (under k h (read_sheet k h sheet) file)) e ∙ ap (λ x. under k h x file) r ∙ a
