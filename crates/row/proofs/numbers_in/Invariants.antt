use Rattle.std.proofs.Common.{◌≡◌, ℕ, ◌<◌, ◌*◌, length, take, drop}
use Rattle.std.specs.List.{slice_index}
use Rattle.octets.specs.BigEndian.{value}
use Rattle.row.proofs.numbers_in.Given as goal

abbrev pub invariant-loop-i : goal.invariant-loop-i
invariant-loop-i g l =
    record {
      long : length l.numbers ≡ g.row.N;
      read : (k : ℕ) → k < l.i → slice_index l.numbers k ≡ value (take 8 (drop (8 * k) l.bytes));
    }
