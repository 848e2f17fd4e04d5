use Rattle.std.proofs.Common.{◌≡◌, ◌+◌, ◌≤◌, is_some}
use Rattle.store.specs.Counts.{tally}
use Rattle.flat.specs.Meaning.{flat_meaning}
use Rattle.flat.proofs.types.Flat.count.Given as goal

abbrev pub invariant-loop-k : goal.invariant-loop-k
invariant-loop-k l =
    record {
      few : l.written ≤ l.k;
      counted : l.written ≡ tally (λ k. is_some ((flat_meaning l.self).find l.closing.0 (k + 1))) l.k;
    }
