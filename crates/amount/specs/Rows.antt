-- Kinds whose amounts are rows of numbers up to 2^63 - 1, each in eight bytes, joined and ordered number by number.
use Rattle.std.specs.Prelude.{ℕ, zero, suc, ◌+◌, ◌*◌, ◌^◌, ◌≤◌, Bool, true, false, cond, ◌&&◌, List, [], ◌∷◌, ◌++◌, length, take, drop, replicate, Some, None, Option, ◌==◌, nat_le, nat_lt}
use Rattle.octets.specs.BigEndian.{be, value}
use Rattle.std.specs.List.{list_all}
use Rattle.octets.specs.Tests.{same}
use Rattle.amount.specs.Kinds.{Kind}

abbrev pub plus : List ℕ → List ℕ → List ℕ
plus [] ys = []
plus (x ∷ xs) [] = []
plus (x ∷ xs) (y ∷ ys) = (x + y) ∷ plus xs ys

abbrev pub at_most : List ℕ → List ℕ → Bool
at_most [] [] = true
at_most [] (y ∷ ys) = false
at_most (x ∷ xs) [] = false
at_most (x ∷ xs) (y ∷ ys) = nat_le x y && at_most xs ys

abbrev pub small : ℕ → Bool
small x = nat_lt x (2 ^ 63)

abbrev pub writable : ℕ → List ℕ → Bool
writable count m = length m == count && list_all small m

abbrev pub bytes : List ℕ → List ℕ
bytes [] = []
bytes (x ∷ xs) = be 8 x ++ bytes xs

-- the numbers that these bytes write, eight to each
abbrev pub numbers : ℕ → List ℕ → List ℕ
numbers zero s = []
numbers (suc n) s = value (take 8 s) ∷ numbers n (drop 8 s)

abbrev pub read : ℕ → List ℕ → Option (List ℕ)
read count s = cond (writable count (numbers count s) && same (bytes (numbers count s)) s) (Some (numbers count s)) None

abbrev pub rows : ℕ → ℕ → Kind
rows number count = record {
  number = number;
  count = count;
  width = 8 * count;
  writable = writable count;
  zero = replicate count 0;
  join = plus;
  under = at_most;
  bytes = bytes;
  read = read count;
}

-- a number of a kind and a length of rows that the laws allow
abbrev pub Allowed : ℕ → ℕ → Type 0
Allowed number count = (number ≤ 255) × (1 ≤ count) × (count ≤ 10)

-- cents
abbrev pub single : Kind
single = rows 1 1

-- cents in four currencies
abbrev pub purse : Kind
purse = rows 2 4
