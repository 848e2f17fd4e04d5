use Rattle.std.proofs.Common.{◌≡◌, ℕ, ◌≤◌}
use Rattle.chained_theory.specs.Layout.{next_at, count_of}
use Rattle.chained_theory.specs.Links.{Laid, Forgot}
use Rattle.chained.specs.Forgets.{every, which}
use Rattle.chained.proofs.relay.Given as goal

abbrev pub invariant-loop-i : goal.invariant-loop-i
invariant-loop-i l =
    record {
      laid : Laid l.memory l.width l.i;
      nexts : (y : ℕ) → 1 ≤ y → y ≤ l.i → next_at l.memory l.width y ≤ l.i;
      few : l.free ≤ l.i;
      counted : l.free ≡ count_of l.memory l.width l.i 0;
      forgot : Forgot l.initial.memory l.memory l.width l.count l.i (every l.forgotten) (which l.forgotten);
    }
