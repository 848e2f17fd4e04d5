use Rattle.store.specs.Meaning.{Meaning}
use Rattle.closing.specs.Closings.{Closing}
use Rattle.grow.specs.Growing.{IsClosing, Ripe, Risen}
use Rattle.grow.proofs.pad.Given as goal

abbrev pub invariant-loop-i : goal.invariant-loop-i
invariant-loop-i g l =
    let k = g.A.Amount.kind in
    let h = g.D.Digest.hash l.digest in
    ((m : Meaning) (c : Closing) → Ripe k h m c → IsClosing c l.closing.0 l.depth l.lines → Risen k h m (g.N.NodeStore.meaning l.initial.nodes) c 0 l.lines
    → Risen k h m (g.N.NodeStore.meaning l.nodes) c 0 l.i)
