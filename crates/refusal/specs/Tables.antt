-- A call's refusals as a table of conditions in order.
use Rattle.std.specs.Prelude.{◌≡◌, ℕ, Bool, false, cond, ◌&&◌, List, [], ◌∷◌, ◌++◌, length, drop, Some, None, Ok, Err, Option, Result, ◌==◌}
use Rattle.refusal.specs.declared.cases.Refusal.{Refusal}
use Rattle.refusal.specs.Refusals.{number_of, offset_of}

-- a condition, and the refusal where it holds
pub record Row : Type 0 where
  pub holds : Bool
  pub gives : Refusal

infixl 20 ◌⇒◌
abbrev pub ◌⇒◌ : Bool → Refusal → Row
b ⇒ r = record { holds = b; gives = r }

-- the first row whose condition holds
abbrev pub first : List Row → Option Refusal
first [] = None
first (row ∷ rows) = cond row.holds (Some row.gives) (first rows)

-- whether this is the refusal of a number and an offset
abbrev pub is_refusal : Option Refusal → ℕ → ℕ → Bool
is_refusal None number offset = false
is_refusal (Some r) number offset = number_of r == number && offset_of r == offset

-- A call is refused exactly as the table says, and otherwise answers what `right` holds of.
abbrev pub Answers : {X : Type 0} → Result X Refusal → Option Refusal → (X → Type 0) → Type 0
Answers (Ok x) why right = (why ≡ None) × right x
Answers (Err e) why right = why ≡ Some e

-- what is written fills its own length and leaves the rest
abbrev pub written : List ℕ → List ℕ → List ℕ
written said buffer = said ++ drop (length said) buffer
