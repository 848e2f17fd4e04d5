use Rattle.std.proofs.Common.{arith}
use Rattle.row.proofs.Rows.{plus_each, small_at, sum_fits}
use Rattle.row.proofs.sums.Goals as goal

pub overflow_add-sums : goal.overflow_add-sums
overflow_add-sums g c =
    let i = c.loop-i.i in
    let e = c.loop-i.invariant.still i (omega arith) in
    let x = small_at c.args.a.now i c.requires.0 in
    sum_fits c.loop-i.sums c.args.b.now i _ (omega arith) c.requires.1

pub returns : goal.returns
returns g c = plus_each g.row.N c.args.a.now c.args.b.now c.loop-i.sums c.told-a c.told-b c.loop-i.invariant.long (λ k l. c.loop-i.invariant.joined k (omega (arith, l, c.loop-i-test.false)))
