use Rattle.std.proofs.Common.{sym, refl, ◌∙◌}
use Rattle.custodian.proofs.Papers.{same_stores, no_sheet, there, number_is, depth_is, tree_stands, sheet_told}
use Rattle.custodian.proofs.Custodian.sheet.Goals as goal

pub returns-in_default : goal.returns-in_default
returns-in_default g c = record {
  digest = refl;
  same = (refl, refl);
  refused = refl;
  answers = λ s keeps. sym (no_sheet keeps c.args.closing.0 c.in_default.ensures.is c.args.out.now);
  stays = λ s keeps. keeps;
}

pub returns : goal.returns
returns g c =
    let n = c.args.closing.0 in
    let x = c.in-Some.stand in
    record {
      digest = refl;
      same = (c.write_sheet.ensures.same, refl);
      refused = c.write_sheet.ensures.refused;
      answers = λ s keeps.
          let e = sym c.in-Some.is ∙ c.find.ensures.is in
          sheet_told keeps n x e c.write_sheet.result _ _ (c.write_sheet.ensures.answers (there keeps n x e).0 (tree_stands keeps n x e) (number_is keeps n x e) (depth_is keeps n x e));
      stays = λ s keeps. same_stores c.write_sheet.ensures.same refl keeps;
    }
