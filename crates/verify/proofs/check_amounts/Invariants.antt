use Rattle.std.proofs.Common.{◌≡◌, ◌+◌, ◌-◌}
use Rattle.verify.specs.Checks.{amounts_refusal, field_refusal, first_from}
use Rattle.verify.proofs.check_amounts.Given as goal

abbrev pub invariant-loop-found : goal.invariant-loop-found
invariant-loop-found g l =
    let k = g.A.Amount.kind in
    (l.found-iterator.file.now ≡ l.file) × (l.found-iterator.width ≡ k.width) × (l.found-iterator.count ≡ 4 + l.depth)
    × (amounts_refusal k l.depth l.file ≡ first_from (field_refusal k l.file) (l.found-iterator.count - l.found-iterator.index) l.found-iterator.index)
