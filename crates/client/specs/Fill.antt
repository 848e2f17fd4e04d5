-- A closing filled with one record at each of its first n places.
use Rattle.std.specs.Prelude.{◌≡◌, ℕ, ◌+◌, ◌≤◌, not, ◌&&◌, List, [], ◌∷◌, Some, None, Option, ◌==◌, ◌≢◌, nat_lt}
use Rattle.refusal.specs.declared.cases.Refusal.{Refusal}
use Rattle.refusal.specs.declared.cases.Refusal.TheVariants.{KeyOutside, WrongWidth, Full}
use Rattle.refusal.specs.Tables.{◌⇒◌, first}
use Rattle.store.specs.Meaning.{Meaning, in_span}
use Rattle.store.specs.Counts.{held}
use Rattle.store.specs.Calls.{SameLimits}

abbrev pub fill_refusal : Meaning → ℕ → ℕ → ℕ → Option Refusal
fill_refusal m c n width = first
    ((not (in_span m c && nat_lt n m.bound) ⇒ KeyOutside)
    ∷ (not (width == m.width) ⇒ WrongWidth)
    ∷ (nat_lt (m.room + held m c) n ⇒ Full)
    ∷ [])

-- the closing has the record at places 1 to n and nothing else, and the other closings have what they had
pub record Filled (m after : Meaning) (c n : ℕ) (bytes : List ℕ) : Type 0 where
  pub limits : SameLimits m after
  pub here : (p : ℕ) → 1 ≤ p → p ≤ n → after.find c p ≡ Some bytes
  pub beyond : (p : ℕ) → (1 ≤ p → p ≤ n → ⊥) → after.find c p ≡ None
  pub others : (d p : ℕ) → (d ≢ c) → after.find d p ≡ m.find d p
  pub room : after.room + n ≡ m.room + held m c
