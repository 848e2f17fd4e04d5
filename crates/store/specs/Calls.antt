-- What each call of a node store refuses, answers and changes.
use Rattle.std.specs.Prelude.{◌≡◌, ℕ, ◌+◌, Bool, true, false, cond, not, ◌&&◌, List, [], ◌∷◌, is_some, Some, None, Ok, Err, Option, Result, ◌==◌, ◌≢◌}
use Rattle.refusal.specs.declared.cases.Refusal.{Refusal}
use Rattle.refusal.specs.declared.cases.Refusal.TheVariants.{KeyOutside, WrongWidth, Full}
use Rattle.refusal.specs.Tables.{◌⇒◌, first}
use Rattle.store.specs.Meaning.{Meaning, in_span, inside}
use Rattle.store.specs.Counts.{held}

-- a record of n bytes to be put under (c, p)
abbrev pub put_refusal : Meaning → ℕ → ℕ → ℕ → Option Refusal
put_refusal m c p n = first
    ((not (inside m c p) ⇒ KeyOutside)
    ∷ (not (n == m.width) ⇒ WrongWidth)
    ∷ ((not (is_some (m.find c p)) && m.room == 0) ⇒ Full)
    ∷ [])

-- a buffer of n bytes for the record under (c, p)
abbrev pub get_refusal : Meaning → ℕ → ℕ → ℕ → Option Refusal
get_refusal m c p n = first ((not (inside m c p) ⇒ KeyOutside) ∷ (not (n == m.width) ⇒ WrongWidth) ∷ [])

abbrev pub held_refusal : Meaning → ℕ → Option Refusal
held_refusal m c = first ((not (in_span m c) ⇒ KeyOutside) ∷ [])

abbrev pub clear_refusal : Meaning → ℕ → Option Refusal
clear_refusal m c = first ((not (in_span m c) ⇒ KeyOutside) ∷ [])

pub record SameLimits (m n : Meaning) : Type 0 where
  pub width : n.width ≡ m.width
  pub first : n.first ≡ m.first
  pub last : n.last ≡ m.last
  pub bound : n.bound ≡ m.bound

-- n is m with the record under (c, p): a new key takes one from the room
pub record Put (m n : Meaning) (c p : ℕ) (bytes : List ℕ) : Type 0 where
  pub limits : SameLimits m n
  pub here : n.find c p ≡ Some bytes
  pub others : (c' p' : ℕ) → (c' ≡ c → p' ≢ p) → n.find c' p' ≡ m.find c' p'
  pub room : n.room + cond (is_some (m.find c p)) 0 1 ≡ m.room

-- n is m without closing c, whose held number goes back to the room
pub record Cleared (m n : Meaning) (c : ℕ) : Type 0 where
  pub limits : SameLimits m n
  pub here : (p : ℕ) → n.find c p ≡ None
  pub others : (c' p : ℕ) → (c' ≢ c) → n.find c' p ≡ m.find c' p
  pub room : n.room ≡ m.room + held m c

-- found fills the buffer with the record; absent leaves it
abbrev pub Got : Meaning → ℕ → ℕ → List ℕ → List ℕ → Bool → Type 0
Got m c p before after true = m.find c p ≡ Some after
Got m c p before after false = (m.find c p ≡ None) × (after ≡ before)

-- what a refusal leaves
abbrev pub Refused : {X : Type 0} → Result X Refusal → Type 0 → Type 0
Refused (Ok x) left = Unit {0}
Refused (Err e) left = left

-- nothing is written yet, within these limits and with this room
pub record Empty (m : Meaning) (width first last bound room : ℕ) : Type 0 where
  pub same_width : m.width ≡ width
  pub same_first : m.first ≡ first
  pub same_last : m.last ≡ last
  pub same_bound : m.bound ≡ bound
  pub same_room : m.room ≡ room
  pub none : (c p : ℕ) → m.find c p ≡ None
