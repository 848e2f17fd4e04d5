use Rattle.std.proofs.Common.{◌≡◌, ℕ, ◌+◌, ◌<◌, ◌≤◌, false, eqb, List, length, vec_items, sym, ◌∙◌, subst, arith, rules}
use mathlib.Core.Logic.{∥∥₁_elim, ∥∥₁_map}
use Rattle.std.proofs.lemmas.List.{with_items_is}
use Rattle.store.specs.Calls.{Cleared}
use Rattle.store.proofs.Inside.{span_out}
use Rattle.store.proofs.Props.{cleared_prop}
use Rattle.store.proofs.Tallies.{tally_le}
use Rattle.chained_theory.specs.Layout.{closing_at, head_at, next_at}
use Rattle.chained_theory.specs.Links.{Forgot}
use Rattle.chained_theory.proofs.Relays.{laid_heads}
use Rattle.chained_theory.proofs.Clears.{clear_linked, cleared}
use Rattle.chained.specs.Sizes.{IsLinked, meaning_of}
use Rattle.chained.specs.Meaning.{chained_meaning}
use Rattle.chained.proofs.types.Chained.forget.Goals as goal

pub invariant_of-self : goal.invariant_of-self
invariant_of-self c =
    let s = c.args.self.now in
    let n = s.extent.limits in
    let a = c.args.closing.0 in
    let i = span_out n.first n.last a c.requires in
    let m : List ℕ = vec_items s.memory in
    let m' : List ℕ = c.relay-self.new.memory in
    let l : length m' ≡ s.memory.len = search rules in
    let is = sym (with_items_is s.memory m' l) in
    let laid = c.relay-self.ensures.laid in
    let gone = subst (λ xs. Forgot xs m' n.width s.count s.count false a) c.deref_mut.ensures.value c.relay-self.ensures.forgot in
    let one : 1 ≤ s.count = s.alive (omega arith) in
    record {
      few = (omega (arith, c.relay-self.ensures.is, tally_le (λ j. eqb (closing_at m' n.width (j + 1)) 0) s.count), s.few.1);
      alive = s.alive;
      shut = (λ z. absurd (omega arith));
      fits = s.fits;
      heads = (λ _. subst (λ xs. (j : ℕ) → j < 17 → head_at xs j ≤ s.count) is (laid_heads m' n.width s.count laid));
      nexts = subst (λ xs. (y : ℕ) → 1 ≤ y → y ≤ s.count → next_at xs n.width y ≤ s.count) is c.relay-self.ensures.nexts;
      linked = (λ _. ∥∥₁_map (s.linked one) (λ k.
          let q = clear_linked m m' n.width s.count n.first n.last n.bound s.room a k s.extent.closings.0 (omega arith) laid gone in
          subst (λ xs. IsLinked xs n s.count c.relay-self.result) is (subst (IsLinked m' n s.count) (sym (c.relay-self.ensures.is ∙ q.keys.free)) q)));
    }

pub returns : goal.returns
returns c =
    let s = c.args.self.now in
    let n = s.extent.limits in
    let a = c.args.closing.0 in
    let i = span_out n.first n.last a c.requires in
    let m : List ℕ = vec_items s.memory in
    let m' : List ℕ = c.relay-self.new.memory in
    let l : length m' ≡ s.memory.len = search rules in
    let is = sym (with_items_is s.memory m' l) in
    let laid = c.relay-self.ensures.laid in
    let gone = subst (λ xs. Forgot xs m' n.width s.count s.count false a) c.deref_mut.ensures.value c.relay-self.ensures.forgot in
    ∥∥₁_elim (s.linked (s.alive (omega arith))) (cleared_prop _ _ _) (λ k.
    let q = clear_linked m m' n.width s.count n.first n.last n.bound s.room a k s.extent.closings.0 (omega arith) laid gone in
    subst (λ xs. Cleared (chained_meaning s) (meaning_of xs n s.count c.relay-self.result) a) is
    (subst (λ r. Cleared (chained_meaning s) (meaning_of m' n s.count r) a) (sym (c.relay-self.ensures.is ∙ q.keys.free))
    (cleared m m' n.width s.count n.first n.last n.bound s.room a k s.extent.closings.0 (omega arith) laid gone i)))
