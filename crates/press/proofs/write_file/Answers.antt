use Rattle.std.proofs.Common.{◌≡◌, ◌+◌, ◌*◌, ◌^◌, ◌<◌, [], ◌++◌, length, sym, refl, ap, ◌∙◌, subst, arith}
use Rattle.refusal.specs.Tables.{written}
use Rattle.tree.proofs.Subtrees.{shallow}
use Rattle.sheet.specs.Layout.{head}
use Rattle.file.specs.Layout.{file_length}
use Rattle.closing.proofs.Issuing.{file_said_long}
use Rattle.closing.proofs.Records.{leaf_inside}
use Rattle.press.proofs.Parts.{enough}
use Rattle.press.proofs.Stood.{file_put}
use Rattle.press.proofs.write_file.Goals as goal

-- a line's leaf is one of the tree
pub returns-then-leaf-first : goal.returns-then-leaf-first
returns-then-leaf-first g c = record {
  same = (refl, refl);
  answers = λ x l t u number depth is.
      let deep = shallow x.depth x.number t.ledger.limits_good in
      let count = c.leaf_count-first.ensures.leaves (omega (arith, deep, depth)) in
      let inside : c.args.leaf.0 < 2 ^ c.args.depth = subst (λ d. c.args.leaf.0 < 2 ^ d) depth (leaf_inside t.ledger c.args.leaf.0 l is) in
      absurd (omega (arith, count, inside, c.if-leaf-first.true));
  refused = refl;
}

pub returns : goal.returns
returns g c = record {
  same = (c.put_steps.ensures.same, c.put_line.ensures.same);
  answers = λ x l t u number depth is.
      let k = g.A.Amount.kind in
      let h = g.D.Digest.hash c.args.digest.now in
      let laws = g.met.A.Amount.lawful in
      let hashes = g.met.D.Digest.lawful c.args.digest.now in
      let leaf = c.args.leaf.0 in
      let out = c.args.out.now in
      let top = head k h c.args.closing.0 c.args.depth in
      let deep = shallow x.depth x.number t.ledger.limits_good in
      let count = c.leaf_count-first.ensures.leaves (omega (arith, deep, depth)) in
      let all : c.args.depth * (32 + c.width-width.result) ≡ x.depth * (32 + k.width) = ap (λ y. c.args.depth * (32 + y)) c.width-width.ensures ∙ ap (λ y. y * (32 + k.width)) (sym depth) in
      let depth_all : x.depth * (32 + k.width) ≡ c.args.depth * (32 + k.width) = ap (λ y. y * (32 + k.width)) depth in
      let first = c.put_part.ensures.is [] out refl refl ∙ ap (λ y. written y out) c.head.ensures in
      let second = c.put_part-2.ensures.is top out refl first ∙ ap (λ y. written (top ++ y) out) c.be_bytes.ensures in (
        enough (length out) (file_length k.width c.args.depth) (omega (arith, c.if-out-end.false, c.width-width.ensures, all, depth_all)),
        (
          omega (arith, file_said_long laws hashes x t.ledger leaf l is, c.width-width.ensures, all),
          file_put t u laws hashes leaf l is c.args.closing.0 c.args.depth (c.leaf_count-first.result + leaf) c.width-width.result out c.put_part-2.new.out c.put_line.new.out c.put_steps.new.out
              (sym number) (sym depth) (ap (λ y. y + leaf) (count ∙ ap (λ d. 2 ^ d) (sym depth))) c.width-width.ensures second c.put_line.ensures.is c.put_steps.ensures.is,
        ),
      );
  refused = tt;
}
