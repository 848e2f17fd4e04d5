use Rattle.std.proofs.Common.{sym}
use Rattle.custodian.proofs.Calls.{open_done, open_spans, keeps_opened, same_digest_open}
use Rattle.custodian.proofs.Custodian.open.Goals as goal

pub returns : goal.returns
returns g c =
    let n = c.args.closing.0 in
    let d = c.args.depth in
    let rest = c.forget_both.ensures.rest in
    record {
      digest = rest.0;
      refused = tt;
      answers = λ s keeps shut. sym (open_done keeps n d shut (c.in_default.ensures.table s keeps).0).0;
      opened = λ s keeps shut.
          let e = (c.in_default.ensures.table s keeps).0 in
          let spans = open_spans keeps n d shut e in
          let a = c.forget_both.ensures.nodes spans.0 in
          let b = c.forget_both.ensures.leaves spans.1 in
          ((a, b), same_digest_open g.D.Digest.hash c.args.self.digest _ rest.0 (keeps_opened keeps n d shut e g.met.A.Amount.lawful a b rest.1 _ c.zero.ensures));
    }
