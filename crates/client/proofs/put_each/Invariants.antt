use Rattle.std.proofs.Common.{◌+◌, ◌-◌, ◌≤◌}
use Rattle.store.specs.Counts.{missing}
use Rattle.client.specs.Fill.{Filled}
use Rattle.client.proofs.put_each.Given as goal

abbrev pub invariant-loop-place : goal.invariant-loop-place
invariant-loop-place g l =
    record {
      filled : Filled (g.S.NodeStore.meaning l.initial.store) (g.S.NodeStore.meaning l.store) l.closing.0 (l.place - 1) l.bytes;
      reached : l.place ≤ l.n + 1;
      room : missing (g.S.NodeStore.meaning l.store) l.closing.0 l.n ≤ (g.S.NodeStore.meaning l.store).room;
    }
