-- The amounts of a file, field by field.
use Rattle.std.proofs.Common.{◌≡◌, ℕ, zero, suc, ◌+◌, ◌-◌, ◌*◌, ◌<◌, ◌≤◌, true, false, cond, ◌&&◌, eqb, leb, List, length, drop, is_some, Some, None, Option, sym, refl, ap, ◌∙◌, subst, add-zero, mul-le-mul_right, zero-add, add-one, arith, le→leb, length-drop, length-take}
use Rattle.file.proofs.Ends.{within}
use Rattle.refusal.specs.declared.cases.Refusal.{Refusal}
use Rattle.refusal.specs.declared.cases.Refusal.TheVariants.{BadAmount}
use Rattle.amount.specs.Kinds.{Kind}
use Rattle.file.specs.declared.types.Found.{Found}
use Rattle.file.specs.Layout.{file_length}
use Rattle.file.specs.Fields.{offset_at, length_at, field_bytes, field_count, IsField}
use Rattle.octets.proofs.Passes.{true_T, both_in, eqb_in}
use Rattle.verify.specs.Checks.{or_else, step_refusal, field_refusal, first_from}

pub is_step : (k : Kind) (s : List ℕ) (i : ℕ) → 4 ≤ i → field_refusal k s i ≡ step_refusal k s i
is_step k s zero h = absurd (omega arith)
is_step k s (suc zero) h = absurd (omega arith)
is_step k s (suc (suc zero)) h = absurd (omega arith)
is_step k s (suc (suc (suc zero))) h = absurd (omega arith)
is_step k s (suc (suc (suc (suc j)))) h = refl

module _ (k : Kind) (s : List ℕ) (i : ℕ) (part : List ℕ) (h : 4 ≤ i) (e : part ≡ field_bytes k.width s i) where
  pub step_good : is_some (k.read (drop 32 part)) ≡ true → field_refusal k s i ≡ None
  step_good t =
      is_step k s i h
      ∙ ap (λ b. cond b None (Some (BadAmount (offset_at k.width i + 32)))) (ap (λ x. is_some (k.read (drop 32 x))) (sym e) ∙ t)

  pub step_bad : (offset : ℕ) → offset ≡ offset_at k.width i → is_some (k.read (drop 32 part)) ≡ false → field_refusal k s i ≡ Some (BadAmount (offset + 32))
  step_bad offset o t =
      is_step k s i h
      ∙ ap (λ b. cond b None (Some (BadAmount (offset_at k.width i + 32)))) (ap (λ x. is_some (k.read (drop 32 x))) (sym e) ∙ t)
      ∙ ap (λ x. Some (BadAmount (x + 32))) (sym o)

-- a field stands low enough
pub offset_small : (width i : ℕ) → width ≤ 80 → i < 24 → offset_at width i ≤ 2400
offset_small width zero w h = omega arith
offset_small width (suc zero) w h = omega arith
offset_small width (suc (suc zero)) w h = omega arith
offset_small width (suc (suc (suc zero))) w h = omega arith
offset_small width (suc (suc (suc (suc j)))) w h =
    let p : j * (32 + width) ≤ 20 * (32 + width) = mul-le-mul_right (32 + width) (let q : j ≤ 20 = omega arith in q) in
    omega arith

-- one field less to judge
module _ (refusal : ℕ → Option Refusal) (count i : ℕ) (h : i < count) where
  more : count - i ≡ suc (count - (i + 1))
  more = omega arith

  pub fields_next : refusal i ≡ None → first_from refusal (count - i) i ≡ first_from refusal (count - (i + 1)) (i + 1)
  fields_next e =
      ap (λ m. first_from refusal m i) more ∙ ap (λ o. or_else o (first_from refusal (count - (i + 1)) (suc i))) e
      ∙ ap (first_from refusal (count - (i + 1))) (sym (add-one i))

  pub fields_stop : (r : Refusal) → refusal i ≡ Some r → first_from refusal (count - i) i ≡ Some r
  fields_stop r e = ap (λ m. first_from refusal m i) more ∙ ap (λ o. or_else o (first_from refusal (count - (i + 1)) (suc i))) e

pub fields_done : (refusal : ℕ → Option Refusal) (count i : ℕ) → count ≤ i → first_from refusal (count - i) i ≡ None
fields_done refusal count i h = ap (λ m. first_from refusal m i) (let e : count - i ≡ 0 = omega arith in e)

-- a file of the right length has all its fields
pub all_fields : (width depth size : ℕ) → depth ≤ 20 → size ≡ file_length width depth → field_count width depth size ≡ 4 + depth
all_fields width depth size d e =
    ap (λ b. cond b (4 + depth) 0) (true_T (leb depth 20 && eqb size (file_length width depth))
    (both_in (leb depth 20) (eqb size (file_length width depth)) (le→leb depth 20 d) (eqb_in size (file_length width depth) e)))

-- a field of an equal file at an equal width
pub same_field : (w v : ℕ) (s t : List ℕ) (i : ℕ) (f : Found) → w ≡ v → s ≡ t → IsField w s i f → IsField v t i f
same_field w v s t i f p q h = subst (λ x. IsField v x i f) q (subst (λ x. IsField x s i f) p h)

-- where no field is refused, each one is not
pub or_none : (a b : Option Refusal) → or_else a b ≡ None → (a ≡ None) × (b ≡ None)
or_none None b e = (refl, e)
or_none (Some r) b e = absurd (let z : ◌≡◌ {A = ℕ} 0 1 = cc in omega arith)

none_from : (refusal : ℕ → Option Refusal) (more a j : ℕ) → first_from refusal more a ≡ None → j < more → refusal (a + j) ≡ None
none_from refusal zero a j e h = absurd (omega arith)
none_from refusal (suc more) a zero e h = ap refusal (add-zero a) ∙ (or_none (refusal a) (first_from refusal more (suc a)) e).0
none_from refusal (suc more) a (suc j) e h =
    ap refusal (let q : a + suc j ≡ suc a + j = omega arith in q) ∙ none_from refusal more (suc a) j (or_none (refusal a) (first_from refusal more (suc a)) e).1 (omega arith)

pub none_at : (refusal : ℕ → Option Refusal) (count i : ℕ) → first_from refusal count 0 ≡ None → i < count → refusal i ≡ None
none_at refusal count i e h = ap refusal (sym (zero-add i)) ∙ none_from refusal count 0 i e h

-- a field has its length
pub field_long : (width : ℕ) (s : List ℕ) (i depth : ℕ) → length s ≡ file_length width depth → i < 4 + depth → length (field_bytes width s i) ≡ length_at width i
field_long width s i depth e h =
    let w = within width i (4 + depth) (omega arith) h in
    let d : 4 + depth - 4 ≡ depth = omega arith in
    let f = ap (file_length width) d in
    simp (length-take, length-drop) (omega arith)
