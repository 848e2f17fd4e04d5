use Rattle.tree.proofs.Leaves.+node.Given as goal

abbrev pub decreases-node : goal.decreases-node
decreases-node g l = l.height
