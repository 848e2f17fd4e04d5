-- Lists whose items are found by a number.
use Rattle.std.specs.Prelude.{ℕ, not, List, filter, Option, ◌==◌}
use Rattle.std.specs.List.{find}

module _ {X : Type 0} (number : X → ℕ) where
  -- the first item of a number
  abbrev pub under_number : ℕ → List X → Option X
  under_number n = find (λ x. number x == n)

  -- all items but those of a number
  abbrev pub without_number : ℕ → List X → List X
  without_number n = filter (λ x. not (number x == n))
