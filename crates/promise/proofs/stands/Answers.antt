use Rattle.promise.proofs.Whole.{promise}
use Rattle.promise.proofs.stands.Goals as goal

pub returns : goal.returns
returns c = promise
