use Rattle.chained_theory.specs.Layout.{push_on, head_at, next_at}
use Rattle.chained.proofs.push_on.Goals as goal

pub returns : goal.returns
unfolding push_on head_at next_at
returns c = cc
