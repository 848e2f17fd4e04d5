use Rattle.std.proofs.Common.{sym, ap, ◌∙◌}
use Rattle.roll.specs.Rolls.{without_number}
use Rattle.roll.specs.Stands.{number_of}
use Rattle.custodian.proofs.Calls.{withdraw_done, withdraw_spans, keeps_withdrawn, same_digest}
use Rattle.custodian.proofs.Custodian.withdraw.Goals as goal

pub returns : goal.returns
returns g c =
    let n = c.args.closing.0 in
    let was = c.args.self.now in
    let rest = c.forget_both.ensures.rest in
    record {
      digest = rest.0;
      refused = tt;
      answers = λ s keeps. sym (withdraw_done keeps n (sym (c.stands.ensures s keeps) ∙ c.if-not-stands.false)).0;
      withdrawn = λ s keeps.
          let there = sym (c.stands.ensures s keeps) ∙ c.if-not-stands.false in
          let spans = withdraw_spans keeps n there in
          let a = c.forget_both.ensures.nodes spans.0 in
          let b = c.forget_both.ensures.leaves spans.1 in
          let r = c.remove.ensures.is ∙ ap (without_number number_of n) rest.1 in
          ((a, b), same_digest g.D.Digest.hash was.digest _ rest.0 (keeps_withdrawn keeps n there a b r));
    }
