-- Where records lie, for the goals on bounds.
use Rattle.chained_theory.proofs.Walks.{record_fits}
use Rattle.chained_theory.proofs.Writes.{past_heads}
use Rattle.chained_theory.proofs.Fronts.{home_high}

pub ruleset places = (record_fits, past_heads, home_high)
