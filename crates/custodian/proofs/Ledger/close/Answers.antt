use Rattle.std.proofs.Common.{refl, ◌∙◌}
use Rattle.custodian.proofs.Calls.{ripe_now, is_closing, few_stand, keeps_closed}
use Rattle.custodian.proofs.Ledger.close.Goals as goal

pub returns : goal.returns
returns g c = record {
  digest = refl;
  closed = λ s open'. keeps_closed open' (c.grow.ensures open'.ledger (ripe_now open') (is_closing open')) (c.add.ensures.added (few_stand open'));
  others = λ s open' d p ne. (c.grow.ensures open'.ledger (ripe_now open') (is_closing open')).others d p (λ e. ne (e ∙ open'.number_is));
  leaves = refl;
}
