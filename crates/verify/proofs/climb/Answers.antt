use Rattle.std.proofs.Common.{◌≡◌, ◌+◌, ◌-◌, ◌<◌, sym, ap, ◌∙◌, subst, arith}
use Rattle.refusal.proofs.Exits.{handed_on}
use Rattle.verify.specs.Paths.{file_of, path_node}
use Rattle.verify.specs.Checks.{field_refusal, join_refusal_at, first_from}
use Rattle.verify.specs.Walks.{Walks}
use Rattle.verify.proofs.Amounts.{all_fields, same_field, field_long, none_at, fields_next, fields_stop, fields_done}
use Rattle.verify.proofs.climb.Goals as goal

pub loop-found-init : goal.loop-found-init
loop-found-init g c =
    let k = g.A.Amount.kind in
    let h = g.D.Digest.hash c.args.digest.now in
    let e = c.new-found-items.ensures in
    let same = c.into_iter-found-iterator.ensures.into_iter_gives in
    let f = c.into_iter-found-iterator.result in
    let n : f.count ≡ 4 + c.args.depth = ap (λ x. x.count) same ∙ e.count ∙ all_fields k.width c.args.depth _ c.requires.deep c.requires.long in
    let start : f.index ≡ 0 = ap (λ x. x.index) same ∙ e.index in
    let j = join_refusal_at k h c.args.closing.0 (file_of k c.args.depth c.args.file.now) in (
      ap (λ x. x.file.now) same ∙ e.file,
      ap (λ x. x.width) same ∙ e.width,
      n,
      record {
        customer_is = λ l. absurd (omega (arith, start));
        salt_is = λ l. absurd (omega (arith, start));
        height_is = omega (arith, start);
        own_is = λ l. absurd (omega (arith, start));
      },
      ap (λ m. first_from j m 0) (let q : 4 + c.args.depth ≡ f.count - f.index = omega (arith, n, start) in q)
          ∙ ap (first_from j (f.count - f.index)) (sym start),
    )

pub walk-requires : goal.walk-requires
walk-requires g c =
    let o = c.in-Some.ensures.steps.found in
    omega (arith, c.loop-found.invariant.3.height_is, c.loop-found.invariant.2, o.0, c.requires.deep)

pub returns-in_err-walker : goal.returns-in_err-walker
returns-in_err-walker g c =
    let k = g.A.Amount.kind in
    let h = g.D.Digest.hash c.args.digest.now in
    let s = c.args.file.now in
    let d = c.args.depth in
    let f = c.loop-found.found-iterator in
    let o = c.in-Some.ensures.steps.found in
    let v = c.loop-found.invariant in
    let e = c.in_err-walker.field-0.0 in
    let below : f.index < 4 + d = omega (arith, o.0, v.2) in
    let is = same_field f.width k.width f.file.now s f.index c.in-Some.found v.1 v.0 o.2 in
    let long = field_long k.width s f.index d c.requires.long below in
    let good = none_at (field_refusal k s) (4 + d) f.index c.requires.amounts below in
    handed_on c.from_residual.result _ _ e c.from_residual.ensures.1
    (v.4 ∙ fields_stop (join_refusal_at k h c.args.closing.0 (file_of k d s)) f.count f.index o.0 e
    (c.in_err-walker.ensures s d f.index is long below good c.requires.number v.3))

pub loop-found-preserved : goal.loop-found-preserved
loop-found-preserved g c =
    let k = g.A.Amount.kind in
    let h = g.D.Digest.hash c.args.digest.now in
    let s = c.args.file.now in
    let d = c.args.depth in
    let f = c.loop-found.found-iterator in
    let n = c.next.new.self in
    let a = c.in-Some.ensures.steps in
    let o = a.found in
    let v = c.loop-found.invariant in
    let below : f.index < 4 + d = omega (arith, o.0, v.2) in
    let is = same_field f.width k.width f.file.now s f.index c.in-Some.found v.1 v.0 o.2 in
    let long = field_long k.width s f.index d c.requires.long below in
    let good = none_at (field_refusal k s) (4 + d) f.index c.requires.amounts below in
    let w = c.in_ok-walker.ensures s d f.index is long below good c.requires.number v.3 in
    let j = join_refusal_at k h c.args.closing.0 (file_of k d s) in (
      a.file ∙ v.0,
      a.width ∙ v.1,
      a.count ∙ v.2,
      subst (λ i. Walks g.A.Amount.meaning k h c.args.closing.0 d s i c.in_ok-walker.walker) (sym o.1) w.1,
      v.4 ∙ fields_next j f.count f.index o.0 w.0
          ∙ ap (λ m. first_from j (m - (f.index + 1)) (f.index + 1)) (sym a.count) ∙ ap (λ i. first_from j (n.count - i) i) (sym o.1),
    )

pub returns : goal.returns
returns g c =
    let k = g.A.Amount.kind in
    let h = g.D.Digest.hash c.args.digest.now in
    let s = c.args.file.now in
    let d = c.args.depth in
    let f = c.loop-found.found-iterator in
    let v = c.loop-found.invariant in
    let o = c.in-None.ensures.steps.found.0 in
    let ff = file_of k d s in (
      v.4 ∙ fields_done (join_refusal_at k h c.args.closing.0 ff) f.count f.index o,
      v.3.own_is (omega (arith, o, v.2)) ∙ ap (path_node k h c.args.closing.0 ff) (let e : f.index - 4 ≡ d = omega (arith, o, v.2, f.narrow) in e),
    )
