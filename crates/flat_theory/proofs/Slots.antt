-- Slots lie in the memory, and apart from one another.
use Rattle.std.proofs.Common.{◌≡◌, ℕ, ◌+◌, ◌-◌, ◌*◌, ◌/◌, ◌%◌, ◌<◌, ◌≤◌, ◌⊎◌, sym, ap, ◌∙◌, inl, inr, mul-le-mul_right, add-mul, one-mul, arith}
use lib.Arith.{digits_lt}
use Rattle.std.proofs.lemmas.Nat.{div-mul-add, mod-mul-add}
use Rattle.std.proofs.lemmas.Bool.{cases_order}
use Rattle.flat_theory.specs.Layout.{slot_of}

-- a row and a column, each of one slot
pub index_lt : (f l b c p : ℕ) → f ≤ c → c ≤ l → p < b → (c - f) * b + p < (l + 1 - f) * b
index_lt f l b c p x y z = digits_lt {q = c - f} {m = l + 1 - f} {r = p} {c = b} (omega arith) z

pub next_slot : (i j k : ℕ) → i < j → i * k + k ≤ j * k
next_slot i j k h = omega (arith, add-mul i 1 k, one-mul k, mul-le-mul_right {m = i + 1} {n = j} k (omega arith))

pub slot_fits : (w f l b c p : ℕ) → f ≤ c → c ≤ l → p < b → slot_of w f b c p + (w + 1) ≤ (l + 1 - f) * b * (w + 1)
unfolding slot_of
slot_fits w f l b c p x y z = next_slot ((c - f) * b + p) ((l + 1 - f) * b) (w + 1) (index_lt f l b c p x y z)

index_apart : (f b c p d q : ℕ) → f ≤ c → f ≤ d → p < b → q < b → (d ≡ c → q ≡ p → ⊥) → (c - f) * b + p ≡ (d - f) * b + q → ⊥
index_apart f b c p d q x y z t ne e =
    let row : c - f ≡ d - f = sym (div-mul-add (c - f) b p z) ∙ ap (λ n. n / b) e ∙ div-mul-add (d - f) b q t in
    let col : p ≡ q = sym (mod-mul-add (c - f) b p z) ∙ ap (λ n. n % b) e ∙ mod-mul-add (d - f) b q t in
    ne (omega arith) (sym col)

pub slots_apart : (w f b c p d q : ℕ) → f ≤ c → f ≤ d → p < b → q < b → (d ≡ c → q ≡ p → ⊥) → (slot_of w f b d q + (w + 1) ≤ slot_of w f b c p) ⊎ (slot_of w f b c p + (w + 1) ≤ slot_of w f b d q)
unfolding slot_of
slots_apart w f b c p d q x y z t ne =
    elim (cases_order ((c - f) * b + p) ((d - f) * b + q)) [
      | inl e ↦ absurd (index_apart f b c p d q x y z t ne e)
      | inr (inl a) ↦ inr (next_slot ((c - f) * b + p) ((d - f) * b + q) (w + 1) a)
      | inr (inr a) ↦ inl (next_slot ((d - f) * b + q) ((c - f) * b + p) (w + 1) a)
    ]

regroup : (a k : ℕ) → a + (k + 1) ≡ a + 1 + k
regroup a k = omega arith

-- the slots of a closing, one after another
pub row_slot : (w f b c k : ℕ) → slot_of w f b c (k + 1) ≡ slot_of w f b c 1 + k * (w + 1)
unfolding slot_of
row_slot w f b c k = ap (λ i. i * (w + 1)) (regroup ((c - f) * b) k) ∙ add-mul ((c - f) * b + 1) k (w + 1)
