use Rattle.std.proofs.Common.{◌≡◌, ℕ, ◌+◌, ◌-◌, ◌*◌, ◌≤◌, List, length, vec_items, sym, ap, ◌∙◌, subst, arith, rules}
use mathlib.Core.Logic.{∥∥₁_elim, ∥∥₁_map}
use native.Mathlib.Bridge.{le_prop}
use Rattle.std.specs.Vec.{with_items}
use Rattle.std.proofs.lemmas.List.{with_items_is}
use Rattle.store.specs.Calls.{Put}
use Rattle.store.proofs.Inside.{key_out}
use Rattle.store.proofs.Props.{put_prop}
use Rattle.chained_theory.specs.Layout.{head_at, next_at, bucket_of, push_on}
use Rattle.chained_theory.proofs.Walks.{record_fits}
use Rattle.chained_theory.proofs.Puts.{push_linked, push_written, push_heads, push_nexts}
use Rattle.chained.specs.declared.types.Chained.{Chained}
use Rattle.chained.specs.Sizes.{IsLinked, meaning_of}
use Rattle.chained.specs.Meaning.{chained_meaning}
use Rattle.chained.proofs.types.Chained.push.Goals as goal

pub push_on-requires-clause-fits : goal.push_on-requires-clause-fits
push_on-requires-clause-fits c =
    let s = c.args.self.now in
    let long = length c.args.bytes.now in
    omega (
      arith,
      record_fits long s.count c.free-number.result c.free-number.ensures.within.0 c.free-number.ensures.within.1,
      ap (λ w. 68 + s.count * (12 + w)) c.requires.wide,
      s.fits (omega arith),
      s.memory.ok.0,
      ap length c.deref_mut.ensures.value,
    )

-- the bytes after
pushed : (s : Chained) (v new old : List ℕ) (a p x : ℕ) (r : List ℕ) → v ≡ new → new ≡ push_on old (length r) x (bucket_of a p) a p r → old ≡ vec_items s.memory → length r ≡ s.extent.limits.width → x ≡ head_at (vec_items s.memory) 0
    → v ≡ push_on (vec_items s.memory) s.extent.limits.width (head_at (vec_items s.memory) 0) (bucket_of a p) a p r
pushed s v new old a p x r new_is done old_is wide x_is =
    new_is ∙ done ∙ ap (λ xs. push_on xs (length r) x (bucket_of a p) a p r) old_is ∙ ap (λ w. push_on (vec_items s.memory) w x (bucket_of a p) a p r) wide
    ∙ ap (λ y. push_on (vec_items s.memory) s.extent.limits.width y (bucket_of a p) a p r) x_is

pub invariant_of-self : goal.invariant_of-self
invariant_of-self c =
    let s = c.args.self.now in
    let n = s.extent.limits in
    let a = c.args.key.closing.0 in
    let p = c.args.key.place.0 in
    let r = c.args.bytes.now in
    let m : List ℕ = vec_items s.memory in
    let new = c.push_on.new.memory in
    let l : length new ≡ s.memory.len = search rules in
    let e = pushed s (vec_items (with_items s.memory new)) new _ a p c.free-number.result r (with_items_is s.memory new l) c.push_on.ensures c.deref_mut.ensures.value c.requires.wide c.free-number.ensures.is in
    let one : 1 ≤ s.count = omega arith in
    let fits : 68 + s.count * (12 + n.width) ≤ length m = omega (arith, s.fits one, s.memory.ok.0) in
    record {
      few = (omega arith, s.few.1);
      alive = s.alive;
      shut = (λ z. absurd (omega (arith, key_out n.first n.last n.bound a p c.requires.inside)));
      fits = s.fits;
      heads = (λ _ j h. ∥∥₁_elim (s.linked one) le_prop (λ k. subst (λ xs. head_at xs j ≤ s.count) (sym e) (push_heads m n.width s.count n.first n.last n.bound s.room a p r k fits s.extent.closings.0 c.requires.inside c.requires.wide c.requires.absent c.requires.some s.nexts (s.heads one) j h)));
      nexts = (λ i u v. ∥∥₁_elim (s.linked one) le_prop (λ k. subst (λ xs. next_at xs n.width i ≤ s.count) (sym e) (push_nexts m n.width s.count n.first n.last n.bound s.room a p r k fits s.extent.closings.0 c.requires.inside c.requires.wide c.requires.absent c.requires.some s.nexts (s.heads one) i u v)));
      linked = (λ _. ∥∥₁_map (s.linked one) (λ k. subst (λ xs. IsLinked xs n s.count (s.room - 1)) (sym e) (push_linked m n.width s.count n.first n.last n.bound s.room a p r k fits s.extent.closings.0 c.requires.inside c.requires.wide c.requires.absent c.requires.some)));
    }

pub returns : goal.returns
returns c =
    let s = c.args.self.now in
    let n = s.extent.limits in
    let a = c.args.key.closing.0 in
    let p = c.args.key.place.0 in
    let r = c.args.bytes.now in
    let m : List ℕ = vec_items s.memory in
    let new = c.push_on.new.memory in
    let l : length new ≡ s.memory.len = search rules in
    let e = pushed s (vec_items (with_items s.memory new)) new _ a p c.free-number.result r (with_items_is s.memory new l) c.push_on.ensures c.deref_mut.ensures.value c.requires.wide c.free-number.ensures.is in
    let one : 1 ≤ s.count = omega arith in
    let fits : 68 + s.count * (12 + n.width) ≤ length m = omega (arith, s.fits one, s.memory.ok.0) in
    ∥∥₁_elim (s.linked one) (put_prop _ _ _ _ _) (λ k.
    subst (λ xs. Put (chained_meaning s) (meaning_of xs n s.count (s.room - 1)) a p r) (sym e)
    (push_written m n.width s.count n.first n.last n.bound s.room a p r k fits s.extent.closings.0 c.requires.inside c.requires.wide c.requires.absent c.requires.some))
