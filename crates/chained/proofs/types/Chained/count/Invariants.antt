use Rattle.std.proofs.Common.{◌≡◌, ◌≤◌, vec_items}
use Rattle.chained_theory.specs.Layout.{count_of}
use Rattle.chained.proofs.types.Chained.count.Given as goal

abbrev pub invariant-loop-k : goal.invariant-loop-k
invariant-loop-k l =
    record {
      few : l.held ≤ l.k;
      counted : l.held ≡ count_of (vec_items l.self.memory) l.self.extent.limits.width l.k l.closing.0;
    }
