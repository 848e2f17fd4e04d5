use Rattle.std.proofs.Common.{◌≡◌, ℕ, ◌<◌, ◌≤◌, ◌+◌, length}
use Rattle.std.specs.List.{slice_index}
use Rattle.row.proofs.sums.Given as goal

abbrev pub invariant-loop-i : goal.invariant-loop-i
invariant-loop-i g l =
    record {
      long : length l.sums ≡ g.row.N;
      joined : (k : ℕ) → k < l.i → slice_index l.sums k ≡ slice_index l.a k + slice_index l.b k;
      still : (k : ℕ) → l.i ≤ k → slice_index l.sums k ≡ slice_index l.a k;
    }
