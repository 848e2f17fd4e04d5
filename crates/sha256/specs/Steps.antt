-- A round in the form of a fold's step.
use Rattle.std.specs.Prelude.{ℕ, List}
use Rattle.sha256.specs.Sha256.{round}

-- a round with a constant and a word of the schedule
abbrev pub round_with : List ℕ → ℕ × ℕ → List ℕ
round_with s p = round s p.0 p.1
