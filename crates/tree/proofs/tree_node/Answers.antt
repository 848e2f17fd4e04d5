use Rattle.std.proofs.Common.{◌≡◌, ◌-◌, ◌^◌, true, false, ◌||◌, T, ltb, leb, sym}
use Rattle.tree.specs.Trees.{bad_limits}
use Rattle.node.specs.Meant.{line_of, lines_of, node_of}
use Rattle.tree.proofs.Subtrees.{many, few, has_node, shallow, nth_each}
use Rattle.tree.proofs.Totals.{at_root}
use Rattle.tree.proofs.tree_node.Goals as goal

pub returns-then-lines-leaf_count : goal.returns-then-lines-leaf_count
returns-then-lines-leaf_count g c =
    let b : bad_limits c.args.closing.0 c.args.depth ≡ false = sym c.if-bad_limits.ensures in
    let m = many (line_of g.A.Amount.meaning) c.args.lines.now c.leaf_count.result c.args.depth (c.leaf_count.ensures.leaves (shallow c.args.depth c.args.closing.0 (sym c.if-bad_limits.ensures))) c.if-lines-leaf_count.true in
    rw (b, m)

pub returns-then-no_node : goal.returns-then-no_node
returns-then-no_node g c =
    let b : bad_limits c.args.closing.0 c.args.depth ≡ false = sym c.if-bad_limits.ensures in
    let m = few (line_of g.A.Amount.meaning) c.args.lines.now c.leaf_count.result c.args.depth (c.leaf_count.ensures.leaves (shallow c.args.depth c.args.closing.0 (sym c.if-bad_limits.ensures))) c.if-lines-leaf_count.false in
    let o : ltb c.args.depth c.args.height || leb (2 ^ (c.args.depth - c.args.height)) c.args.n ≡ true = sym c.if-no_node.ensures in
    rw (b, m, o)

pub node-requires : goal.node-requires
node-requires g c = has_node c.args.depth c.args.height c.args.n c.args.closing.0 (sym c.if-bad_limits.ensures) (sym c.if-no_node.ensures)

pub returns : goal.returns
returns g c =
    let b : bad_limits c.args.closing.0 c.args.depth ≡ false = sym c.if-bad_limits.ensures in
    let m = few (line_of g.A.Amount.meaning) c.args.lines.now c.leaf_count.result c.args.depth (c.leaf_count.ensures.leaves (shallow c.args.depth c.args.closing.0 (sym c.if-bad_limits.ensures))) c.if-lines-leaf_count.false in
    let o : ltb c.args.depth c.args.height || leb (2 ^ (c.args.depth - c.args.height)) c.args.n ≡ false = sym c.if-no_node.ensures in
    let a = g.A.Amount in
    let lawful = g.met.A.Amount in
    let xs = c.args.lines.now in
    let fit = nth_each (line_of a.meaning) (λ l. T (a.kind.writable l.balance)) (λ x. lawful.sound x.balance) xs in
    let root = at_root lawful.lawful (g.D.Digest.hash c.args.digest.now) c.args.closing.0 (lines_of a.meaning xs) fit (node_of a.meaning) c.node.result _ c.args.depth c.args.height c.args.n m o c.node.ensures in
    rw (b, m, o) root
