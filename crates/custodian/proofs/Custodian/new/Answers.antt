use Rattle.std.proofs.Common.{refl}
use Rattle.closing.proofs.Steps.{represents_new}
use Rattle.closing.proofs.Standings.{standings_hold}
use Rattle.closing.proofs.Accounts.{lines_account}
use Rattle.custodian.proofs.Custodian.new.Goals as goal

pub returns : goal.returns
returns g c = record {
  parts = (refl, refl, refl);
  is = record {
    represents = represents_new g.A.Amount.kind (g.D.Digest.hash c.args.digest) (g.N.NodeStore.meaning c.args.nodes) (g.L.NodeStore.meaning c.args.leaves);
    roll_is = c.new.ensures;
  };
  standings = standings_hold;
  lines = lines_account;
}
