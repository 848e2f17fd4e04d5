use Rattle.std.proofs.Common.{◌≡◌, ◌+◌, ◌-◌, sym, ap, ◌∙◌, arith}
use Rattle.refusal.proofs.Exits.{handed_on}
use Rattle.verify.specs.Checks.{field_refusal, first_from}
use Rattle.verify.proofs.Amounts.{all_fields, same_field, offset_small, fields_next, fields_stop, fields_done}
use Rattle.verify.proofs.check_amounts.Goals as goal

pub loop-found-init : goal.loop-found-init
loop-found-init g c =
    let k = g.A.Amount.kind in
    let e = c.new-found-items.ensures in
    let same = c.into_iter-found-iterator.ensures.into_iter_gives in
    let f = c.into_iter-found-iterator.result in
    let n : f.count ≡ 4 + c.args.depth = ap (λ x. x.count) same ∙ e.count ∙ all_fields k.width c.args.depth _ c.requires.0 c.requires.1 in
    let start : f.index ≡ 0 = ap (λ x. x.index) same ∙ e.index in (
      ap (λ x. x.file.now) same ∙ e.file,
      ap (λ x. x.width) same ∙ e.width,
      n,
      ap (λ m. first_from (field_refusal k c.args.file.now) m 0) (let q : 4 + c.args.depth ≡ f.count - f.index = omega (arith, n, start) in q)
          ∙ ap (first_from (field_refusal k c.args.file.now) (f.count - f.index)) (sym start),
    )

pub judge-requires : goal.judge-requires
judge-requires g c =
    let f = c.loop-found.found-iterator in
    let o = c.in-Some.ensures.steps.found in
    let b = offset_small f.width f.index f.narrow.0 (omega (arith, f.narrow, o.0)) in
    omega (arith, b, o.2.offset_is)

pub returns-in_err-judge : goal.returns-in_err-judge
returns-in_err-judge g c =
    let k = g.A.Amount.kind in
    let s = c.args.file.now in
    let f = c.loop-found.found-iterator in
    let o = c.in-Some.ensures.steps.found in
    let v = c.loop-found.invariant in
    let e = c.in_err-judge.field-0.0 in
    let is = same_field f.width k.width f.file.now s f.index c.in-Some.found v.1 v.0 o.2 in
    handed_on c.from_residual.result _ _ e c.from_residual.ensures.1
    (v.3 ∙ fields_stop (field_refusal k s) f.count f.index o.0 e (c.in_err-judge.ensures s f.index is))

pub loop-found-preserved : goal.loop-found-preserved
loop-found-preserved g c =
    let k = g.A.Amount.kind in
    let s = c.args.file.now in
    let f = c.loop-found.found-iterator in
    let n = c.next.new.self in
    let a = c.in-Some.ensures.steps in
    let o = a.found in
    let v = c.loop-found.invariant in
    let is = same_field f.width k.width f.file.now s f.index c.in-Some.found v.1 v.0 o.2 in
    let d = (c.in_ok-judge.ensures s f.index is).0 in (
      a.file ∙ v.0,
      a.width ∙ v.1,
      a.count ∙ v.2,
      v.3 ∙ fields_next (field_refusal k s) f.count f.index o.0 d
          ∙ ap (λ m. first_from (field_refusal k s) (m - (f.index + 1)) (f.index + 1)) (sym a.count) ∙ ap (λ i. first_from (field_refusal k s) (n.count - i) i) (sym o.1),
    )

pub returns : goal.returns
returns g c =
    let k = g.A.Amount.kind in
    let f = c.loop-found.found-iterator in
    (c.loop-found.invariant.3 ∙ fields_done (field_refusal k c.args.file.now) f.count f.index c.in-None.ensures.steps.found.0, tt)
