use Rattle.std.proofs.Common.{is_some, ap, ◌∙◌}
use Rattle.custodian.proofs.Rows.{found_some}
use Rattle.custodian.proofs.Custodian.stands.Goals as goal

pub returns : goal.returns
returns g c s keeps = c.is_some.ensures ∙ ap is_some c.find.ensures.is ∙ found_some keeps c.args.closing.0
