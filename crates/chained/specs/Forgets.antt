-- Which records are forgotten, as the layout's words say it.
use Rattle.std.specs.Prelude.{ℕ, Bool, true, false}
use Rattle.chained.specs.declared.Forgotten.{Forgotten}
use Rattle.chained.specs.declared.Forgotten.TheVariants.{Every, Of}

abbrev pub every : Forgotten → Bool
every Every = true
every (Of c) = false

abbrev pub which : Forgotten → ℕ
which Every = 0
which (Of c) = c.0
