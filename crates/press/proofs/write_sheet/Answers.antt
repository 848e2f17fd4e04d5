use Rattle.std.proofs.Common.{◌+◌, [], sym, refl, ap, ◌∙◌, arith, rules}
use Rattle.refusal.specs.Tables.{written}
use Rattle.closing.proofs.Issuing.{sheet_said_long}
use Rattle.press.proofs.Stood.{sheet_put}
use Rattle.press.proofs.write_sheet.Goals as goal

pub returns : goal.returns
returns g c = record {
  same = c.fetch_part.ensures.same;
  answers = λ x t number depth.
      let laws = g.met.A.Amount.lawful in
      let hashes = g.met.D.Digest.lawful c.args.digest.now in
      let out = c.args.out.now in (
        search rules,
        (
          omega (arith, sheet_said_long laws hashes x t.ledger, c.width-width.ensures),
          sheet_put t laws hashes c.args.closing.0 c.args.depth (32 + c.width-width.result) out c.put_part.new.out c.fetch_part.new.out (sym number) (sym depth) (ap (λ y. 32 + y) c.width-width.ensures)
              (c.put_part.ensures.is [] out refl refl ∙ ap (λ y. written y out) c.head.ensures) c.fetch_part.ensures.is,
        ),
      );
  refused = tt;
}
