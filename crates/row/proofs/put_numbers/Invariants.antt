use Rattle.std.proofs.Common.{◌≡◌, take}
use Rattle.refusal.specs.Tables.{written}
use Rattle.amount.specs.Rows.{bytes}
use Rattle.row.proofs.put_numbers.Given as goal

abbrev pub invariant-loop-i : goal.invariant-loop-i
invariant-loop-i l = l.out ≡ written (bytes (take l.i l.numbers)) l.fn.out
