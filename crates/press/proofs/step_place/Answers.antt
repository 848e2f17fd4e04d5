use Rattle.std.proofs.Common.{◌≡◌, ◌+◌, ◌-◌, ◌/◌, ◌^◌, sym, ap, ◌∙◌, arith}
use Rattle.file.specs.Ledgers.{beside}
use Rattle.press.proofs.Sides.{beside_left, beside_right, step_small}
use Rattle.press.proofs.step_place.Goals as goal
use Rattle.press.proofs.step_place.Goals.{then-own-eq0, else-own-eq0}

pub overflow_add-result : goal.overflow_add-result
overflow_add-result c =
    let own = c.args.leaf / 2 ^ c.args.j in
    let e : c.if-own-eq0.other ≡ beside own = elim c.if-own-eq0.branch [
      | then-own-eq0 w ↦ w.other-is ∙ sym (beside_left own w.if-own-eq0.true)
      | else-own-eq0 w ↦ w.other-is ∙ sym (beside_right own w.if-own-eq0.false)
    ] in
    let count = c.leaf_count.ensures.leaves (omega (arith, c.requires)) in
    omega (arith, e, count, step_small c.args.depth c.args.leaf c.args.j c.requires.0 c.requires.1.0 c.requires.1.1)

pub returns : goal.returns
returns c =
    let own = c.args.leaf / 2 ^ c.args.j in
    let e : c.if-own-eq0.other ≡ beside own = elim c.if-own-eq0.branch [
      | then-own-eq0 w ↦ w.other-is ∙ sym (beside_left own w.if-own-eq0.true)
      | else-own-eq0 w ↦ w.other-is ∙ sym (beside_right own w.if-own-eq0.false)
    ] in
    ap (λ x. x + c.if-own-eq0.other) (c.leaf_count.ensures.leaves (omega (arith, c.requires))) ∙ ap (λ x. 2 ^ (c.args.depth - c.args.j) + x) e
