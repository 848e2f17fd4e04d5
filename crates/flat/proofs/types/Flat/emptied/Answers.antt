use Rattle.std.proofs.Common.{◌≡◌, ℕ, ◌+◌, ◌-◌, ◌*◌, ◌<◌, List, None, length, get_or, vec_items, refl, sym, ap, ◌∙◌, subst, arith, rules}
use Rattle.std.specs.Vec.{with_items}
use Rattle.std.proofs.lemmas.List.{with_items_is}
use Rattle.store.specs.declared.limits.Limits.{Limits}
use Rattle.store.proofs.Rooms.{none_held}
use Rattle.flat_theory.proofs.Finds.{none_found}
use Rattle.flat.specs.Sizes.{meaning_of}
use Rattle.flat.proofs.types.Flat.emptied.Goals as goal

nothing : (xs mem : List ℕ) (n : Limits) (many room : ℕ) → many ≡ n.last + 1 - n.first → xs ≡ mem → ((k : ℕ) → k < many * n.bound → get_or mem (0 + k * (n.width + 1)) 0 ≡ 0)
    → (c p : ℕ) → (meaning_of xs n room).find c p ≡ None
nothing xs mem n many room e same marks =
    none_found xs n.width n.first n.last n.bound (λ k h. ap (λ ys. get_or ys (0 + k * (n.width + 1)) 0) same ∙ marks k (subst (λ z. k < z * n.bound) (sym e) h))

pub invariant_of-result : goal.invariant_of-result
invariant_of-result c =
    let n = c.args.extent.limits in
    let m = c.clear_marks.new.memory in
    let v = with_items c.args.memory m in
    let room = c.closings-closings.result * (n.bound - 1) in
    let l : length m ≡ c.args.memory.len = search rules in
    let none = nothing (vec_items v) m n c.closings-closings.result room c.closings-closings.ensures (with_items_is c.args.memory m l) c.clear_marks.ensures.marks in
    record {
      fits = c.requires;
      counts = omega (arith, none_held (meaning_of (vec_items v) n room) none, ap (λ k. k * (n.bound - 1)) c.closings-closings.ensures);
    }

pub returns : goal.returns
returns c =
    let n = c.args.extent.limits in
    let m = c.clear_marks.new.memory in
    let v = with_items c.args.memory m in
    let room = c.closings-closings.result * (n.bound - 1) in
    let l : length m ≡ c.args.memory.len = search rules in
    record {
      is = record {
        same_width = refl;
        same_first = refl;
        same_last = refl;
        same_bound = refl;
        same_room = ap (λ k. k * (n.bound - 1)) c.closings-closings.ensures;
        none = nothing (vec_items v) m n c.closings-closings.result room c.closings-closings.ensures (with_items_is c.args.memory m l) c.clear_marks.ensures.marks;
      };
      kept = refl;
    }
