use Rattle.std.proofs.Common.{ℕ, List, sym, ap, ◌∙◌}
use Rattle.refusal.proofs.Exits.{handed_on}
use Rattle.closing.specs.Closings.{line}
use Rattle.custodian.proofs.Rows.{low_depth}
use Rattle.custodian.proofs.Calls.{joining_decides, total_with}
use Rattle.custodian.proofs.Ledger.admit_line.Goals as goal

pub returns-in_err-total-clause-table : goal.returns-in_err-total-clause-table
returns-in_err-total-clause-table g c s open' =
    let low = low_depth c.args.self.now.stand.depth c.args.self.now.stand.lines c.leaf_count.result c.leaf_count.ensures.leaves c.leaf_count.ensures.none c.if-self-leaf_count.false in
    handed_on c.from_residual.result _ _ _ c.from_residual.ensures.1
    (joining_decides open' g.met.A.Amount.lawful c.args.customer.now c.args.salt.now (g.A.Amount.meaning c.args.balance) c.in-Ok-Ok.ensures.1.long c.in-Ok-Ok.ensures'.1.long low.1 ∙ c.in_err-total.ensures)

pub returns-clause-table : goal.returns-clause-table
returns-clause-table g c s open' =
    let low = low_depth c.args.self.now.stand.depth c.args.self.now.stand.lines c.leaf_count.result c.leaf_count.ensures.leaves c.leaf_count.ensures.none c.if-self-leaf_count.false in
    let customer = c.args.customer.now in
    let salt = c.args.salt.now in
    let balance = g.A.Amount.meaning c.args.balance in
    let one = c.in-Ok-Ok.ensures.1 in
    let two = c.in-Ok-Ok.ensures'.1 in
    let joined = c.in_ok-total.ensures in (
      joining_decides open' g.met.A.Amount.lawful customer salt balance one.long two.long low.1 ∙ joined.0,
      (ap (λ (x : List ℕ). line x c.in-Ok-Ok.salt balance) one.same ∙ ap (λ (x : List ℕ). line customer x balance) two.same, joined.1 ∙ sym (total_with open' g.met.A.Amount.lawful customer salt balance)),
    )
