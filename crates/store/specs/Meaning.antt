-- What a node store means: its limits, a record for each written key, and a room.
use Rattle.std.specs.Prelude.{◌≡◌, ℕ, ◌<◌, ◌≤◌, Bool, true, ◌&&◌, List, length, Some, Option, nat_le, nat_lt}

pub record Meaning : Type 0 where
  pub width : ℕ
  pub first : ℕ
  pub last : ℕ
  pub bound : ℕ
  pub find : ℕ → ℕ → Option (List ℕ)
  pub room : ℕ

-- whether closing c is one of first to last
abbrev pub spans : ℕ → ℕ → ℕ → Bool
spans first last c = nat_le first c && nat_le c last

-- whether closing c is one of first to last, and place p one of 1 to bound - 1
abbrev pub holds_key : ℕ → ℕ → ℕ → ℕ → ℕ → Bool
holds_key first last bound c p = spans first last c && (nat_le 1 p && nat_lt p bound)

abbrev pub in_span : Meaning → ℕ → Bool
in_span m c = spans m.first m.last c

abbrev pub inside : Meaning → ℕ → ℕ → Bool
inside m c p = holds_key m.first m.last m.bound c p

-- whether a store may have these limits
abbrev pub valid_limits : ℕ → ℕ → ℕ → ℕ → Bool
valid_limits width first last bound = nat_le 1 width && (nat_le width 128 && (nat_le 1 first && (nat_le first last && (nat_le last 9999 && (nat_le 2 bound && nat_le bound 2097152)))))

-- What holds of every store's meaning. A store on memory that does not fit has an empty span and no room.
pub record Sound (m : Meaning) : Type 0 where
  pub wide : 1 ≤ m.width
  pub narrow : m.width ≤ 128
  pub starts : 1 ≤ m.first
  pub ends : m.last ≤ 9999
  pub two : 2 ≤ m.bound
  pub most : m.bound ≤ 2097152
  pub shut : m.last < m.first → m.room ≡ 0
  -- only keys inside are written, with records of the width
  pub keys : (c p : ℕ) (r : List ℕ) → m.find c p ≡ Some r → inside m c p ≡ true
  pub records : (c p : ℕ) (r : List ℕ) → m.find c p ≡ Some r → length r ≡ m.width
