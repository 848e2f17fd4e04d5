use Rattle.custodian.proofs.Calls.{abandon_spans, keeps_abandoned, same_digest}
use Rattle.custodian.proofs.Ledger.abandon.Goals as goal

pub returns : goal.returns
returns g c =
    let was = c.args.self in
    let rest = c.forget_both.ensures.rest in
    record {
      digest = rest.0;
      abandoned = λ s open'.
          let spans = abandon_spans open' in
          let a = c.forget_both.ensures.nodes spans.0 in
          let b = c.forget_both.ensures.leaves spans.1 in
          let there = keeps_abandoned open' a b rest.1 in
          (there.0, (a, b), same_digest g.D.Digest.hash was.of.digest _ rest.0 there.1);
    }
