use Rattle.std.proofs.Common.{get_or, sym, refl, ◌∙◌}
use Rattle.closing.specs.Closings.{no_line}
use Rattle.custodian.proofs.Papers.{same_stores, no_file, no_leaf, there, number_is, depth_is, tree_stands, texts_stand, leaf_there, file_told}
use Rattle.custodian.proofs.Custodian.issue.Goals as goal

pub returns-in_default : goal.returns-in_default
returns-in_default g c = record {
  digest = refl;
  same = (refl, refl);
  refused = refl;
  answers = λ s keeps shut. sym (no_file keeps c.args.closing.0 c.in_default.ensures.is shut c.args.leaf.0 c.args.out.now);
  stays = λ s keeps. keeps;
}

pub returns-then-leaf-stand : goal.returns-then-leaf-stand
returns-then-leaf-stand g c = record {
  digest = refl;
  same = (refl, refl);
  refused = refl;
  answers = λ s keeps shut. sym (no_leaf keeps c.args.closing.0 c.in-Some.stand (sym c.in-Some.is ∙ c.find.ensures.is) shut c.args.leaf.0 c.if-leaf-stand.true c.args.out.now);
  stays = λ s keeps. keeps;
}

pub returns : goal.returns
returns g c =
    let n = c.args.closing.0 in
    let i = c.args.leaf.0 in
    let x = c.in-Some.stand in
    let w = c.write_file.ensures in
    record {
      digest = refl;
      same = w.same;
      refused = w.refused;
      answers = λ s keeps shut.
          let e = sym c.in-Some.is ∙ c.find.ensures.is in
          let low = c.if-leaf-stand.false in
          file_told keeps n x e shut i low c.write_file.result _ _
          (w.answers (there keeps n x e).0 (get_or (there keeps n x e).0.lines i no_line) (tree_stands keeps n x e) (texts_stand keeps n x e) (number_is keeps n x e) (depth_is keeps n x e) (leaf_there keeps n x e shut i low));
      stays = λ s keeps. same_stores w.same.0 w.same.1 keeps;
    }
