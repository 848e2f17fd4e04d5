-- The closings on the roll, by their numbers.
use Rattle.std.specs.Prelude.{ℕ}
use Rattle.roll.specs.declared.types.Stand.{Stand}

abbrev pub number_of : Stand → ℕ
number_of s = s.closing.0
