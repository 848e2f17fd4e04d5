use Rattle.std.proofs.Common.{rules, ap, ◌≡◌, ℕ, ◌+◌, ◌≤◌, cond, List, length, set, is_some, None, vec_items, ◌∙◌, arith}
use Rattle.std.specs.Vec.{with_items}
use Rattle.std.proofs.lemmas.List.{with_items_is}
use Rattle.store.specs.Calls.{Put, get_refusal}
use Rattle.store.proofs.Inside.{key_span}
use Rattle.store.proofs.Refusals.{get_opened, put_open}
use Rattle.store.proofs.Rooms.{put_all, not_all}
use Rattle.flat_theory.specs.Layout.{flat_of, slot_of, slot_at}
use Rattle.memory.specs.Part.{patch}
use Rattle.flat.specs.declared.types.Flat.{Flat}
use Rattle.flat_theory.proofs.Finds.{put_slot, flat_has_room}
use Rattle.flat.specs.Meaning.{flat_meaning}
use Rattle.flat.proofs.FlatNodeStore.put.Goals as goal

pub room_after-room-requires : goal.room_after-room-requires
room_after-room-requires c =
    let s = c.args.self.now in
    let n = s.extent.limits in
    let t = get_opened (flat_meaning s) c.args.key.closing.0 c.args.key.place.0 (length c.args.bytes.now) c.in_ok-admit.ensures.0 in
    record {
      within = omega (arith, c.slot-at.ensures.fits);
      some = flat_has_room (vec_items s.memory) n.width n.first n.last n.bound c.args.key.closing.0 c.args.key.place.0 s.room c.slot-at.result c.slot-at.ensures.is t.0 s.counts;
    }

-- the calls' promises together
done : (s : Flat) (v : List ℕ) (k p room at : ℕ) (r : List ℕ) → get_refusal (flat_meaning s) k p (length r) ≡ None → at ≡ slot_of s.extent.limits.width s.extent.limits.first s.extent.limits.bound k p
    → v ≡ patch (set (vec_items s.memory) at 1) (at + 1) r → room + cond (is_some (slot_at (vec_items s.memory) s.extent.limits.width at)) 0 1 ≡ s.room
    → Put (flat_meaning s) (flat_of v s.extent.limits.width s.extent.limits.first s.extent.limits.last s.extent.limits.bound room) k p r
done s v k p room at r open-to e items rooms =
    let n = s.extent.limits in
    let t = get_opened (flat_meaning s) k p (length r) open-to in
    put_slot (vec_items s.memory) v n.width n.first n.last n.bound k p s.room room at r e items t.1 t.0 (omega (arith, s.fits, s.memory.ok.0)) rooms

pub invariant_of-self : goal.invariant_of-self
invariant_of-self c =
    let s = c.args.self.now in
    let n = s.extent.limits in
    let k = c.args.key.closing.0 in
    let p = c.args.key.place.0 in
    let t = get_opened (flat_meaning s) k p (length c.args.bytes.now) c.in_ok-admit.ensures.0 in
    let v = with_items s.memory c.write_slot.new.memory in
    let l : length c.write_slot.new.memory ≡ s.memory.len = search rules in
    let e : vec_items v ≡ patch (set (vec_items s.memory) c.slot-at.result 1) (c.slot-at.result + 1) c.args.bytes.now =
    with_items_is s.memory c.write_slot.new.memory l ∙ c.write_slot.ensures ∙ ap (λ xs. patch (set xs c.slot-at.result 1) (c.slot-at.result + 1) c.args.bytes.now) c.deref_mut.ensures.value in
    record {
      fits = s.fits;
      counts = put_all (flat_meaning s) _ k p c.args.bytes.now t.0 (key_span n.first n.last n.bound k p t.0) (done s (vec_items v) k p c.room_after-room.result c.slot-at.result c.args.bytes.now c.in_ok-admit.ensures.0 c.slot-at.ensures.is e c.room_after-room.ensures) ∙ s.counts;
    }

pub returns : goal.returns
returns c =
    let s = c.args.self.now in
    let n = s.extent.limits in
    let k = c.args.key.closing.0 in
    let p = c.args.key.place.0 in
    let t = get_opened (flat_meaning s) k p (length c.args.bytes.now) c.in_ok-admit.ensures.0 in
    let room : (flat_meaning s).find k p ≡ None → 1 ≤ s.room = λ e. omega (arith, s.counts, not_all (flat_meaning s) k p t.0 e) in
    let v = with_items s.memory c.write_slot.new.memory in
    let l : length c.write_slot.new.memory ≡ s.memory.len = search rules in
    let e : vec_items v ≡ patch (set (vec_items s.memory) c.slot-at.result 1) (c.slot-at.result + 1) c.args.bytes.now =
    with_items_is s.memory c.write_slot.new.memory l ∙ c.write_slot.ensures ∙ ap (λ xs. patch (set xs c.slot-at.result 1) (c.slot-at.result + 1) c.args.bytes.now) c.deref_mut.ensures.value in
    record { answers = (put_open (flat_meaning s) k p (length c.args.bytes.now) t.0 t.1 room, done s (vec_items v) k p c.room_after-room.result c.slot-at.result c.args.bytes.now c.in_ok-admit.ensures.0 c.slot-at.ensures.is e c.room_after-room.ensures); refused = tt }
