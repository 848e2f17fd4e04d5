use Rattle.std.proofs.Common.{◌≡◌, ◌+◌, ◌-◌, ◌^◌, sym, ap, ◌∙◌, arith}
use Rattle.node.specs.Texts.{node_bytes}
use Rattle.grow.proofs.Levels.{raised, padding_there}
use Rattle.grow.proofs.pad.Goals as goal

pub loop-i-preserved : goal.loop-i-preserved
loop-i-preserved g c =
    λ m x ripe is risen.
    let k = g.A.Amount.kind in
    let low = c.loop-i.auto.i in
    let count = c.leaf_count-leaves.ensures.leaves c.requires in
    let e : 2 ^ (x.depth - 0) ≡ 2 ^ c.args.depth = ap (λ y. 2 ^ y) (let q : x.depth - 0 ≡ c.args.depth = omega (arith, is.depth_is) in q) in
    raised g.met.A.Amount.lawful (g.met.D.Digest.lawful c.args.digest.now) ripe (c.loop-i.invariant m x ripe is risen) (omega arith) c.args.closing.0 (c.leaf_count-leaves.result + c.loop-i.i)
    _ (sym is.number_is) (ap (λ y. y + c.loop-i.i) (count ∙ sym e)) (ap (node_bytes k) (c.padding-node.ensures ∙ padding_there g.met.A.Amount.lawful (g.met.D.Digest.lawful c.args.digest.now) ripe c.args.closing.0 c.loop-i.i (sym is.number_is) (omega (arith, low, is.lines_are)))) (omega (arith, c.loop-i-test.true, count, e))
    c.put_node.ensures.is
