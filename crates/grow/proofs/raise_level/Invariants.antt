use Rattle.std.proofs.Common.{◌≡◌}
use Rattle.store.specs.Meaning.{Meaning}
use Rattle.closing.specs.Closings.{Closing}
use Rattle.grow.specs.Growing.{Ripe, Risen}
use Rattle.grow.proofs.raise_level.Given as goal

abbrev pub invariant-loop-n : goal.invariant-loop-n
invariant-loop-n g l =
    let k = g.A.Amount.kind in
    let h = g.D.Digest.hash l.digest in
    ((m : Meaning) (c : Closing) → Ripe k h m c → c.number ≡ l.closing.0 → c.depth ≡ l.depth → Risen k h m (g.N.NodeStore.meaning l.initial.nodes) c l.height 0
    → Risen k h m (g.N.NodeStore.meaning l.nodes) c l.height l.n)
