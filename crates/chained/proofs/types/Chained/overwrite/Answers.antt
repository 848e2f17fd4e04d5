use Rattle.std.proofs.Common.{◌≡◌, ℕ, ◌+◌, ◌*◌, ◌≤◌, List, length, vec_items, sym, ap, ◌∙◌, subst, arith, rules}
use mathlib.Core.Logic.{∥∥₁_elim, ∥∥₁_map}
use native.Mathlib.Bridge.{le_prop}
use Rattle.std.specs.Vec.{with_items}
use Rattle.std.proofs.lemmas.List.{with_items_is}
use Rattle.memory.specs.Part.{patch}
use Rattle.store.specs.Calls.{Put}
use Rattle.store.proofs.Props.{put_prop}
use Rattle.store.proofs.Inside.{key_out}
use Rattle.chained_theory.specs.Layout.{start_of, head_at, next_at}
use Rattle.chained_theory.proofs.Overwrites.{heads_stay, keys_stay, overwrite_linked, overwrite_written}
use Rattle.chained.specs.declared.types.Chained.{Chained}
use Rattle.chained.specs.Sizes.{IsLinked, meaning_of}
use Rattle.chained.specs.Meaning.{chained_meaning, sought}
use Rattle.chained.proofs.types.Chained.overwrite.Goals as goal

-- the bytes after
over : (s : Chained) (v new old : List ℕ) (a p at : ℕ) (r : List ℕ) → v ≡ new → new ≡ patch old (at + 12) r → old ≡ vec_items s.memory → at ≡ start_of s.extent.limits.width (sought s a p)
    → v ≡ patch (vec_items s.memory) (start_of s.extent.limits.width (sought s a p) + 12) r
over s v new old a p at r x y z e = x ∙ y ∙ ap (λ xs. patch xs (at + 12) r) z ∙ ap (λ i. patch (vec_items s.memory) (i + 12) r) e

pub invariant_of-self : goal.invariant_of-self
invariant_of-self c =
    let s = c.args.self.now in
    let n = s.extent.limits in
    let a = c.args.key.closing.0 in
    let p = c.args.key.place.0 in
    let r = c.args.bytes.now in
    let m : List ℕ = vec_items s.memory in
    let new = c.write_part.new.memory in
    let l : length new ≡ s.memory.len = search rules in
    let e = over s (vec_items (with_items s.memory new)) new _ a p c.args.at r (with_items_is s.memory new l) c.write_part.ensures c.deref_mut.ensures.value c.requires.is in
    let one : 1 ≤ s.count = s.alive (omega (arith, key_out n.first n.last n.bound a p c.requires.inside)) in
    let fits : 68 + s.count * (12 + n.width) ≤ length m = omega (arith, s.fits one, s.memory.ok.0) in
    record {
      few = s.few;
      alive = s.alive;
      shut = s.shut;
      fits = s.fits;
      heads = (λ _ j h. ∥∥₁_elim (s.linked one) le_prop (λ k. subst (λ xs. head_at xs j ≤ s.count) (sym e) (omega (arith, heads_stay m n.width s.count n.first n.last n.bound s.room a p r k fits s.extent.closings.0 c.requires.inside c.requires.wide c.requires.found j h, s.heads one j h))));
      nexts = (λ i u v. ∥∥₁_elim (s.linked one) le_prop (λ k. subst (λ xs. next_at xs n.width i ≤ s.count) (sym e) (omega (arith, (keys_stay m n.width s.count n.first n.last n.bound s.room a p r k fits s.extent.closings.0 c.requires.inside c.requires.wide c.requires.found i u v).next, s.nexts i u v))));
      linked = (λ _. ∥∥₁_map (s.linked one) (λ k. subst (λ xs. IsLinked xs n s.count s.room) (sym e) (overwrite_linked m n.width s.count n.first n.last n.bound s.room a p r k fits s.extent.closings.0 c.requires.inside c.requires.wide c.requires.found)));
    }

pub returns : goal.returns
returns c =
    let s = c.args.self.now in
    let n = s.extent.limits in
    let a = c.args.key.closing.0 in
    let p = c.args.key.place.0 in
    let r = c.args.bytes.now in
    let m : List ℕ = vec_items s.memory in
    let new = c.write_part.new.memory in
    let l : length new ≡ s.memory.len = search rules in
    let e = over s (vec_items (with_items s.memory new)) new _ a p c.args.at r (with_items_is s.memory new l) c.write_part.ensures c.deref_mut.ensures.value c.requires.is in
    let one : 1 ≤ s.count = s.alive (omega (arith, key_out n.first n.last n.bound a p c.requires.inside)) in
    let fits : 68 + s.count * (12 + n.width) ≤ length m = omega (arith, s.fits one, s.memory.ok.0) in
    ∥∥₁_elim (s.linked one) (put_prop _ _ _ _ _) (λ k.
    subst (λ xs. Put (chained_meaning s) (meaning_of xs n s.count s.room) a p r) (sym e)
    (overwrite_written m n.width s.count n.first n.last n.bound s.room a p r k fits s.extent.closings.0 c.requires.inside c.requires.wide c.requires.found))
