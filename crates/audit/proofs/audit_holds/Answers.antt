use Rattle.audit.proofs.Holds.{audit_promise}
use Rattle.audit.proofs.audit_holds.Goals as goal

pub returns : goal.returns
returns c = audit_promise
