use Rattle.std.proofs.Common.{◌≡◌, ℕ, ◌+◌, ◌-◌, ◌*◌, ◌<◌, ◌≤◌, List, get_or, length, None, vec_items, sym, ap, ◌∙◌, subst, add-mul, arith, rules}
use Rattle.std.specs.Vec.{with_items}
use Rattle.std.proofs.lemmas.List.{with_items_is}
use Rattle.store.specs.Counts.{held}
use Rattle.store.specs.Calls.{Cleared, held_refusal}
use Rattle.flat.specs.declared.types.Flat.{Flat}
use Rattle.store.proofs.Inside.{span_out}
use Rattle.store.proofs.Refusals.{held_open}
use Rattle.store.proofs.Rooms.{cleared_all}
use Rattle.flat.specs.Sizes.{meaning_of, start_of}
use Rattle.flat_theory.specs.Layout.{slot_of}
use Rattle.flat_theory.proofs.Slots.{slot_fits, row_slot}
use Rattle.flat_theory.proofs.Finds.{clear_slots}
use Rattle.flat.specs.Meaning.{flat_meaning}
use Rattle.flat.proofs.FlatNodeStore.clear.Goals as goal

pub clear_marks-requires : goal.clear_marks-requires
clear_marks-requires c =
    let s = c.args.self.now in
    let n = s.extent.limits in
    let i = span_out n.first n.last c.args.closing.0 (held_open (flat_meaning s) c.args.closing.0 c.in_ok-admit_closing.ensures.0) in
    let k = n.bound - 2 in
    let last : slot_of n.width n.first n.bound c.args.closing.0 (k + 1) + (n.width + 1) ≤ (n.last + 1 - n.first) * n.bound * (n.width + 1) =
    slot_fits n.width n.first n.last n.bound c.args.closing.0 (k + 1) i.0 i.1 (omega arith) in
    let r : slot_of n.width n.first n.bound c.args.closing.0 (k + 1) ≡ slot_of n.width n.first n.bound c.args.closing.0 1 + k * (n.width + 1) = row_slot n.width n.first n.bound c.args.closing.0 k in
    let m : (k + 1) * (n.width + 1) ≡ k * (n.width + 1) + 1 * (n.width + 1) = add-mul k 1 (n.width + 1) in
    let e : n.bound - 1 ≡ k + 1 = omega arith in
    let z : (n.bound - 1) * (n.width + 1) ≡ (k + 1) * (n.width + 1) = ap (λ x. x * (n.width + 1)) e in
    (omega (arith, c.slot-base.ensures.is, s.fits), omega arith)

-- the calls' promises together
done : (s : Flat) (v mem old : List ℕ) (k n base : ℕ) → held_refusal (flat_meaning s) k ≡ None → base ≡ start_of s.extent.limits k 1 → v ≡ mem → old ≡ vec_items s.memory → length mem ≡ s.memory.len
    → ((i : ℕ) → i < s.extent.limits.bound - 1 → get_or mem (base + i * (s.extent.limits.width + 1)) 0 ≡ 0)
    → ((j : ℕ) → ((i : ℕ) → i < s.extent.limits.bound - 1 → j ≡ base + i * (s.extent.limits.width + 1) → ⊥) → get_or mem j 0 ≡ get_or old j 0)
    → n ≡ held (flat_meaning s) k
    → Cleared (flat_meaning s) (meaning_of v s.extent.limits (s.room + n)) k
done s v mem old k n base open-to e new was len marks rest count =
    let m = s.extent.limits in
    subst (λ xs. Cleared (flat_meaning s) (meaning_of xs m (s.room + n)) k) (sym new)
    (clear_slots (vec_items s.memory) mem m.width m.first m.last m.bound k s.room n base e (omega (arith, len, s.memory.ok.0))
    (span_out m.first m.last k (held_open (flat_meaning s) k open-to)) marks (λ j o. rest j o ∙ ap (λ xs. get_or xs j 0) was) count)

pub invariant_of-self : goal.invariant_of-self
invariant_of-self c =
    let s = c.args.self.now in
    let m = c.clear_marks.new.memory in
    let l : length m ≡ s.memory.len = search rules in
    let open-to = c.in_ok-admit_closing.ensures.0 in
    let t = held_open (flat_meaning s) c.args.closing.0 open-to in
    record {
      fits = s.fits;
      counts = cleared_all (flat_meaning s) _ c.args.closing.0 t
          (done s (vec_items (with_items s.memory m)) m _ c.args.closing.0 c.count-n.result c.slot-base.result open-to c.slot-base.ensures.is (with_items_is s.memory m l) c.deref_mut.ensures.value l
          c.clear_marks.ensures.marks c.clear_marks.ensures.rest c.count-n.ensures) ∙ s.counts;
    }

pub returns : goal.returns
returns c =
    let s = c.args.self.now in
    let m = c.clear_marks.new.memory in
    let l : length m ≡ s.memory.len = search rules in
    let open-to = c.in_ok-admit_closing.ensures.0 in
    record {
      answers = (
        open-to,
        done s (vec_items (with_items s.memory m)) m _ c.args.closing.0 c.count-n.result c.slot-base.result open-to c.slot-base.ensures.is (with_items_is s.memory m l) c.deref_mut.ensures.value l
            c.clear_marks.ensures.marks c.clear_marks.ensures.rest c.count-n.ensures,
      );
      refused = tt;
    }
