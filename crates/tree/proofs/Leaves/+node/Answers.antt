use Rattle.std.proofs.Common.{◌≡◌, suc, ◌-◌, T, arith}
use Rattle.refusal.proofs.Exits.{handed_on}
use Rattle.node.specs.Meant.{line_of, node_of, lines_of}
use Rattle.tree.proofs.Subtrees.{halves, nth_each, refused_left, refused_right, over_both}
use Rattle.tree.proofs.Leaves.+node.Goals as goal

pub node-requires : goal.node-requires
node-requires g t c κs within =
    let is : c.args.height ≡ suc (c.args.height - 1) = omega arith in
    (omega (arith, c.decreases), (within.0, (within.1, (halves c.args.n (c.args.height - 1) c.args.height is c.requires).0)))

pub returns-in_err-left : goal.returns-in_err-left
returns-in_err-left g t c =
    let a = g.A.Amount in
    let m = g.met.A.Amount in
    let e = c.in_err-left.field-0.0 in
    let xs = c.args.self.now.lines.now in
    let fit = nth_each (line_of a.meaning) (λ l. T (a.kind.writable l.balance)) (λ x. m.sound x.balance) xs in
    let is : c.args.height ≡ suc (c.args.height - 1) = omega arith in
    handed_on c.from_residual.result _ _ e c.from_residual.ensures.1
    (refused_left m.lawful (g.D.Digest.hash c.args.self.now.digest.now) c.args.self.now.closing.0 (lines_of a.meaning xs) fit c.args.height (c.args.height - 1) c.args.n is e c.in_err-left.ensures)

pub node-requires-2 : goal.node-requires-2
node-requires-2 g t c κs within =
    let is : c.args.height ≡ suc (c.args.height - 1) = omega arith in
    (omega (arith, c.decreases), (within.0, (within.1, (halves c.args.n (c.args.height - 1) c.args.height is c.requires).1)))

pub returns-in_err-right : goal.returns-in_err-right
returns-in_err-right g t c =
    let a = g.A.Amount in
    let m = g.met.A.Amount in
    let e = c.in_err-right.field-0.0 in
    let xs = c.args.self.now.lines.now in
    let fit = nth_each (line_of a.meaning) (λ l. T (a.kind.writable l.balance)) (λ x. m.sound x.balance) xs in
    let is : c.args.height ≡ suc (c.args.height - 1) = omega arith in
    handed_on c.from_residual-in_err-right.result _ _ e c.from_residual-in_err-right.ensures.1
    (refused_right m.lawful (g.D.Digest.hash c.args.self.now.digest.now) c.args.self.now.closing.0 (lines_of a.meaning xs) fit c.args.height (c.args.height - 1) c.args.n is e c.in_err-right.ensures)

pub returns : goal.returns
returns g t c =
    let a = g.A.Amount in
    let m = g.met.A.Amount in
    let xs = c.args.self.now.lines.now in
    let fit = nth_each (line_of a.meaning) (λ l. T (a.kind.writable l.balance)) (λ x. m.sound x.balance) xs in
    let is : c.args.height ≡ suc (c.args.height - 1) = omega arith in
    over_both m.lawful (g.D.Digest.hash c.args.self.now.digest.now) c.args.self.now.closing.0 (lines_of a.meaning xs) fit c.args.height (c.args.height - 1) c.args.n is
    (node_of a.meaning) c.inner.result (node_of a.meaning c.in_ok-left.left) (node_of a.meaning c.in_ok-right.right)
    c.in_ok-left.ensures.1 c.in_ok-right.ensures.1 c.inner.ensures
