use Rattle.digest.specs.Digests.{rehearsed}
use Rattle.examples.proofs.count.Goals as goal

pub returns-clause-hold : goal.returns-clause-hold
unfolding rehearsed
returns-clause-hold c = tt
