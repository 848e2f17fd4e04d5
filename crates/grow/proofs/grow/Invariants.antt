use Rattle.std.proofs.Common.{◌-◌, ◌^◌, ◌≤◌}
use Rattle.store.specs.Meaning.{Meaning}
use Rattle.closing.specs.Closings.{Closing}
use Rattle.grow.specs.Growing.{IsClosing, Ripe, Risen}
use Rattle.grow.proofs.grow.Given as goal

abbrev pub invariant-loop-height : goal.invariant-loop-height
invariant-loop-height g l =
    let k = g.A.Amount.kind in
    let h = g.D.Digest.hash l.digest in
    (1 ≤ l.height)
    × ((m : Meaning) (c : Closing) → Ripe k h m c → IsClosing c l.closing.0 l.depth l.lines
    → Risen k h m (g.N.NodeStore.meaning l.initial.nodes) c 0 (2 ^ l.depth)
    → Risen k h m (g.N.NodeStore.meaning l.nodes) c (l.height - 1) (2 ^ (l.depth - (l.height - 1))))
