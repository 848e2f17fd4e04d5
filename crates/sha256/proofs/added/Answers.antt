use Rattle.std.proofs.Common.{get_or, rules}
use Rattle.sha256.specs.Sha256.{added}
use Rattle.sha256.specs.Words.{add}
use Rattle.sha256.proofs.Made.{made}
use Rattle.sha256.proofs.added.Goals as goal

pub returns : goal.returns
unfolding added
returns c = made _ _ (λ i. add (get_or c.args.h i 0) (get_or c.args.s i 0)) (λ i y q k. search rules) c.from_fn.result 8 c.from_fn.ensures.items
