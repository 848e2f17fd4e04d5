use Rattle.std.proofs.Common.{◌/◌, ◌^◌, eqb, ap}
use lib.Bits.{and_mask}
use Rattle.verify.proofs.on_left.Goals as goal

pub returns : goal.returns
returns c = ap (λ n. eqb n 0) (and_mask (c.args.leaf / 2 ^ c.args.j) 1)
