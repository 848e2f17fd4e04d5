use Rattle.node.proofs.NodeBytes.{short}
use Rattle.node.proofs.read_node.Goals as goal

pub returns-in_default : goal.returns-in_default
returns-in_default g c = short g.met.A.Amount.lawful c.args.bytes.now c.in_default.ensures.cases
