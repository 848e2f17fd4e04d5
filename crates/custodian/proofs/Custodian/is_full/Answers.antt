use Rattle.std.proofs.Common.{leb, ap, ◌∙◌}
use Rattle.custodian.proofs.Rows.{how_many}
use Rattle.custodian.proofs.Custodian.is_full.Goals as goal

pub returns : goal.returns
returns g c s keeps = ap (leb 8) (c.len.ensures.value ∙ how_many keeps)
