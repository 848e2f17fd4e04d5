use Rattle.std.proofs.Common.{◌≡◌, suc, ◌+◌, ◌-◌, ◌/◌, ◌%◌, ◌^◌, cond, eqb, ap, ◌∙◌, subst, arith}
use Rattle.node.specs.Meant.{node_of}
use Rattle.file.specs.Fields.{HasIndex, bytes_of, field_bytes}
use Rattle.verify.specs.Paths.{file_of, is_left, path_node}
use Rattle.verify.proofs.Climbs.{step_is, above, climbs, stops, chosen}
use Rattle.verify.proofs.walk.Goals as goal

pub returns-in-Ok-over : goal.returns-in-Ok-over
returns-in-Ok-over g c s depth i f long below amount number walks =
    let k = g.A.Amount.kind in
    let m = g.A.Amount.meaning in
    let h = g.D.Digest.hash c.args.digest.now in
    let n = c.args.closing.0 in
    let w = c.args.walker in
    let ff = file_of k depth s in
    let st = c.in-Ok-read_node.step in
    let b = eqb (c.args.leaf_number / 2 ^ w.height % 2) 0 in
    let low = subst (HasIndex i) c.in-Step.is f.named in
    let part = subst (λ x. bytes_of x ≡ field_bytes k.width s i) c.in-Step.is f.bytes_are in
    let bit : b ≡ is_left ff (i - 4) = ap (λ x. eqb (x / 2 ^ w.height % 2) 0) number ∙ ap (λ x. eqb (ff.leaf / 2 ^ x % 2) 0) walks.height_is in
    let x = node_of m w.own in
    let y = node_of m st in
    let l = node_of m (cond b w.own st) in
    let r = node_of m (cond b st w.own) in
    let py = step_is k s c.in-Step.part.now depth i y low below part c.in-Ok-read_node.ensures.1 in
    let pl = chosen (node_of m) b w.own st in
    let pr = chosen (node_of m) b st w.own in (
      climbs k h n ff i low b bit x y l r (walks.own_is low) py pl pr c.in-Ok-over.ensures.0,
      record {
        customer_is = λ _. walks.customer_is (omega arith);
        salt_is = λ _. walks.salt_is (omega arith);
        height_is = omega (arith, walks.height_is);
        own_is = λ _. c.in-Ok-over.ensures.1 ∙ above k h n ff i low b bit x y l r (walks.own_is low) py pl pr
            ∙ ap (path_node k h n ff) (let e : suc (i - 4) ≡ i + 1 - 4 = omega arith in e);
      },
    )

pub returns-in_default-over : goal.returns-in_default-over
returns-in_default-over g c s depth i f long below amount number walks =
    let k = g.A.Amount.kind in
    let m = g.A.Amount.meaning in
    let h = g.D.Digest.hash c.args.digest.now in
    let n = c.args.closing.0 in
    let w = c.args.walker in
    let ff = file_of k depth s in
    let st = c.in-Ok-read_node.step in
    let b = eqb (c.args.leaf_number / 2 ^ w.height % 2) 0 in
    let low = subst (HasIndex i) c.in-Step.is f.named in
    let part = subst (λ x. bytes_of x ≡ field_bytes k.width s i) c.in-Step.is f.bytes_are in
    let bit : b ≡ is_left ff (i - 4) = ap (λ x. eqb (x / 2 ^ w.height % 2) 0) number ∙ ap (λ x. eqb (ff.leaf / 2 ^ x % 2) 0) walks.height_is in
    let y = node_of m st in
    let py = step_is k s c.in-Step.part.now depth i y low below part c.in-Ok-read_node.ensures.1 in
    stops k h n ff i low b bit (node_of m w.own) y (node_of m (cond b w.own st)) (node_of m (cond b st w.own)) (walks.own_is low) py
    (chosen (node_of m) b w.own st) (chosen (node_of m) b st w.own) c.in_default-over.field-0 c.args.found.offset f.offset_is c.in_default-over.ensures
