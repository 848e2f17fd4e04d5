use Rattle.audit.proofs.Honest.{honest_audit}
use Rattle.audit.proofs.honest_audits_hold.Goals as goal

pub returns : goal.returns
returns c = honest_audit
