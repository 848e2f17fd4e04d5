use Rattle.std.proofs.Common.{rules}
use Rattle.sha256.specs.Words.{choose, majority, Σ0, Σ1}
use Rattle.sha256.specs.Sha256.{round}
use Rattle.sha256.proofs.round.Goals as goal

pub returns : goal.returns
unfolding round choose majority Σ0 Σ1
returns c = search rules
