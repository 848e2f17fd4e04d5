use Rattle.std.proofs.Common.{◌≡◌, ◌+◌, ◌-◌, ◌^◌, ◌≤◌, sym, ap, ◌∙◌, arith, pow_mono}
use Rattle.grow.proofs.Levels.{raised_over}
use Rattle.grow.proofs.raise_level.Goals as goal

pub raise-requires : goal.raise-requires
raise-requires g c =
    let d = c.args.depth - c.args.height in
    let count = c.leaf_count-first.ensures.leaves (omega (arith, c.requires)) in
    let m : 2 ^ d ≤ 2 ^ 19 = pow_mono {i = d} {j = 19} (omega (arith, c.requires)) in
    omega (arith, count, m, c.loop-n-test.true)

pub loop-n-preserved : goal.loop-n-preserved
loop-n-preserved g c =
    λ m x ripe number depth risen.
    let count = c.leaf_count-first.ensures.leaves (omega (arith, c.requires)) in
    let e : 2 ^ (x.depth - c.args.height) ≡ 2 ^ (c.args.depth - c.args.height) = ap (λ y. 2 ^ (y - c.args.height)) depth in
    raised_over g.met.A.Amount.lawful (g.met.D.Digest.lawful c.args.digest.now) ripe c.args.height c.loop-n.n c.args.closing.0 (c.leaf_count-first.result + c.loop-n.n)
    (omega (arith, c.requires)) (omega (arith, c.requires, depth)) (omega (arith, c.loop-n-test.true, count, e)) (c.loop-n.invariant m x ripe number depth risen) (sym number) (ap (λ y. y + c.loop-n.n) (count ∙ sym e))
    c.raise.ensures
