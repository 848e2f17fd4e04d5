use Rattle.std.proofs.Common.{◌≡◌, ℕ, ◌<◌, ◌≤◌, length, refl, sym, ap, ◌∙◌, subst, arith, rules}
use Rattle.std.proofs.lemmas.List.{with_items_is}
use Rattle.chained_theory.specs.Layout.{head_at, next_at}
use Rattle.chained_theory.proofs.Relays.{laid_heads}
use Rattle.chained_theory.proofs.Clears.{new_linked, new_none}
use Rattle.chained.specs.Sizes.{IsLinked, meaning_of}
use Rattle.chained.proofs.types.Chained.emptied.Goals as goal

pub invariant_of-result : goal.invariant_of-result
invariant_of-result c =
    let n = c.args.extent.limits in
    let m = c.relay-room.new.memory in
    let l : length m ≡ c.args.memory.len = search rules in
    let is = sym (with_items_is c.args.memory m l) in
    let laid = c.relay-room.ensures.laid in
    let k = new_linked _ m n.width c.args.count n.first n.last n.bound 0 c.args.extent.closings.0 laid c.relay-room.ensures.forgot in
    let whole : c.relay-room.result ≡ c.args.count = c.relay-room.ensures.is ∙ k.keys.free in
    record {
      few = (omega (arith, whole), c.requires.few.1);
      alive = (λ _. c.requires.few.0);
      shut = (λ z. absurd (omega (arith, c.requires.some)));
      fits = (λ _. c.requires.fits);
      heads = (λ _. subst (λ xs. (j : ℕ) → j < 17 → head_at xs j ≤ c.args.count) is (laid_heads m n.width c.args.count laid));
      nexts = subst (λ xs. (i : ℕ) → 1 ≤ i → i ≤ c.args.count → next_at xs n.width i ≤ c.args.count) is c.relay-room.ensures.nexts;
      linked = (λ _. ∣ subst (λ xs. IsLinked xs n c.args.count c.relay-room.result) is (subst (IsLinked m n c.args.count) (sym whole) k) ∣₁);
    }

pub returns-clause-is : goal.returns-clause-is
returns-clause-is c =
    let n = c.args.extent.limits in
    let m = c.relay-room.new.memory in
    let l : length m ≡ c.args.memory.len = search rules in
    let is = sym (with_items_is c.args.memory m l) in
    let laid = c.relay-room.ensures.laid in
    let k = new_linked _ m n.width c.args.count n.first n.last n.bound 0 c.args.extent.closings.0 laid c.relay-room.ensures.forgot in
    record {
      same_width = refl;
      same_first = refl;
      same_last = refl;
      same_bound = refl;
      same_room = c.relay-room.ensures.is ∙ k.keys.free;
      none = λ d q. ap (λ xs. (meaning_of xs n c.args.count c.relay-room.result).find d q) (sym is) ∙ new_none _ m n.width c.args.count n.first n.last n.bound 0 c.args.extent.closings.0 laid c.relay-room.ensures.forgot d q;
    }
