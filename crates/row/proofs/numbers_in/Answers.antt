use Rattle.std.proofs.Common.{arith}
use Rattle.row.proofs.Rows.{numbers_each}
use Rattle.row.proofs.numbers_in.Goals as goal

pub returns : goal.returns
returns g c = numbers_each g.row.N c.args.bytes.now c.loop-i.numbers c.loop-i.invariant.long (λ k l. c.loop-i.invariant.read k (omega (arith, l, c.loop-i-test.false)))
