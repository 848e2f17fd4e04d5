use Rattle.std.proofs.Common.{◌≡◌, ℕ, List, ◌++◌, length}
use Rattle.refusal.specs.Tables.{written}
use Rattle.digest.specs.Hashes.{Hash, HashLaws}
use Rattle.file.specs.Layout.{steps_bytes}
use Rattle.file.specs.Ledgers.{steps_beside}
use Rattle.closing.specs.Closings.{Closing}
use Rattle.press.specs.Standing.{TreeStands}
use Rattle.press.proofs.put_steps.Given as goal

abbrev pub invariant-loop-j : goal.invariant-loop-j
invariant-loop-j g l =
    let k = g.A.Amount.kind in
    (g.N.NodeStore.meaning l.nodes ≡ g.N.NodeStore.meaning l.initial.nodes)
    × (length l.out ≡ length l.initial.out)
    × ((h : Hash) (c : Closing) (said o : List ℕ) → HashLaws h → TreeStands k h (g.N.NodeStore.meaning l.initial.nodes) c → c.number ≡ l.closing.0 → c.depth ≡ l.depth
    → length said ≡ l.at → l.initial.out ≡ written said o
    → l.out ≡ written (said ++ steps_bytes k (steps_beside k h c.number c.lines l.leaf l.j 0)) o)
