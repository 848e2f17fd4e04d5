use Rattle.std.proofs.Common.{◌≡◌, ◌+◌, ◌-◌, ◌^◌, ◌≤◌, sym, subst, arith}
use Rattle.store.specs.Meaning.{Meaning}
use Rattle.grow.specs.Growing.{Risen}
use Rattle.grow.proofs.Levels.{risen_up, risen_lines, grown}
use Rattle.grow.proofs.grow.Goals as goal

pub loop-height-preserved : goal.loop-height-preserved
loop-height-preserved g c = (
  omega arith,
  λ m x ripe is risen.
      let k = g.A.Amount.kind in
      let h = g.D.Digest.hash c.args.digest.now in
      let a : Meaning = g.N.NodeStore.meaning c.loop-height.nodes in
      let b : Meaning = g.N.NodeStore.meaning c.raise_level.new.nodes in
      let j = c.loop-height.height in
      let one : 1 ≤ j = c.loop-height.invariant.0 in
      let before : Risen k h m a x (j - 1) (2 ^ (x.depth - (j - 1))) = subst (λ d. Risen k h m a x (j - 1) (2 ^ (d - (j - 1)))) (sym is.depth_is) (c.loop-height.invariant.1 m x ripe is risen) in
      let up = risen_up g.met.A.Amount.lawful (g.met.D.Digest.lawful c.args.digest.now) ripe (omega (arith, is.depth_is, one, c.loop-height-test.true)) before in
      let at : Risen k h m a x j 0 = subst (λ y. Risen k h m a x y 0) (let q : j - 1 + 1 ≡ j = omega arith in q) up in
      let there = c.raise_level.ensures m x ripe is.number_is is.depth_is at in
      subst (λ y. Risen k h m b x y (2 ^ (c.args.depth - y))) (let q : j ≡ j + 1 - 1 = omega arith in q) there,
)

pub returns : goal.returns
returns g c = λ x ripe is.
    let k = g.A.Amount.kind in
    let h = g.D.Digest.hash c.args.digest.now in
    let m : Meaning = g.N.NodeStore.meaning c.args.nodes.now in
    let a : Meaning = g.N.NodeStore.meaning c.loop-height.nodes in
    let laws = g.met.A.Amount.lawful in
    let hashes = g.met.D.Digest.lawful c.args.digest.now in
    let j = c.loop-height.height in
    let start : Risen k h m m x 0 c.args.lines = subst (Risen k h m m x 0) is.lines_are (risen_lines laws hashes ripe) in
    let padded = c.pad.ensures m x ripe is start in
    let end = c.loop-height.invariant.1 m x ripe is padded in
    let e : j - 1 ≡ x.depth = omega (arith, is.depth_is, c.loop-height-test.false, c.loop-height.auto) in
    grown laws hashes ripe (subst (λ d. Risen k h m a x x.depth (2 ^ (d - x.depth))) (sym is.depth_is) (subst (λ y. Risen k h m a x y (2 ^ (c.args.depth - y))) e end))
