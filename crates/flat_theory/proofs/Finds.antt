-- What a flat store's bytes stand for after a write.
use Rattle.std.proofs.Common.{◌≡◌, ℕ, ◌+◌, ◌-◌, ◌*◌, ◌<◌, ◌≤◌, Bool, true, false, cond, not, ◌&&◌, eqb, leb, ◌⊎◌, List, length, get_or, set, is_some, Some, None, sym, refl, ap, ◌∙◌, inl, inr, zero-add, zero-mul, arith, length-drop, length-take}
use Rattle.std.proofs.lemmas.List.{get_or-set_same, get_or-set_other, length-set}
use Rattle.std.proofs.lemmas.Bool.{cases_Bool, cond-true, cond-false, and_parts, leb-true}
use Rattle.std.proofs.lemmas.Nat.{mul-le}
use Rattle.memory.specs.Part.{part, patch}
use Rattle.memory.proofs.Parts.{length_patch, getD_patch, part_patch, part_same}
use Rattle.refusal.specs.declared.cases.Refusal.TheVariants.{MemoryUnfit}
use Rattle.store.specs.Meaning.{Sound, holds_key, valid_limits}
use Rattle.store.specs.Counts.{held, held_all}
use Rattle.store.specs.Calls.{Put, Cleared}
use Rattle.store.proofs.Inside.{key_out, Valid, valid_out}
use Rattle.store.proofs.Rooms.{not_all}
use Rattle.flat_theory.specs.Layout.{slot_of, slot_at, flat_find, flat_of, flat_bytes, flat_room, flat_refusal}
use Rattle.flat_theory.proofs.Slots.{slot_fits, slots_apart, row_slot, index_lt}

-- a slot whose bytes stay says what it said
pub slot_at_same : (mem mem' : List ℕ) (w i : ℕ) → length mem' ≡ length mem → ((k : ℕ) → i ≤ k → k < i + (w + 1) → get_or mem' k 0 ≡ get_or mem k 0) → slot_at mem' w i ≡ slot_at mem w i
slot_at_same mem mem' w i l h =
    let mark : get_or mem' i 0 ≡ get_or mem i 0 = h i (omega arith) (omega arith) in
    let rest : part mem' (i + 1) w ≡ part mem (i + 1) w = part_same mem mem' (i + 1) w l (λ k a b. h k (omega arith) (omega arith)) in
    ap (λ m. cond (eqb m 1) (Some (part mem' (i + 1) w)) None) mark ∙ ap (λ r. cond (eqb (get_or mem i 0) 1) (Some r) None) rest

-- the same of a key
pub flat_find_same : (mem mem' : List ℕ) (w f l b c p : ℕ) → length mem' ≡ length mem
    → ((f ≤ c) × (c ≤ l) × (1 ≤ p) × (p < b) → (k : ℕ) → slot_of w f b c p ≤ k → k < slot_of w f b c p + (w + 1) → get_or mem' k 0 ≡ get_or mem k 0)
    → flat_find mem' w f l b c p ≡ flat_find mem w f l b c p
flat_find_same mem mem' w f l b c p e h =
    elim (cases_Bool (holds_key f l b c p)) [
      | inl t ↦ ap (λ o. cond (holds_key f l b c p) o None) (slot_at_same mem mem' w (slot_of w f b c p) e (h (key_out f l b c p t)))
      | inr t ↦ cond-false (holds_key f l b c p) _ _ t ∙ sym (cond-false (holds_key f l b c p) _ _ t)
    ]

pub flat_find_inside : (mem : List ℕ) (w f l b c p : ℕ) → holds_key f l b c p ≡ true → flat_find mem w f l b c p ≡ slot_at mem w (slot_of w f b c p)
flat_find_inside mem w f l b c p t = cond-true (holds_key f l b c p) _ _ t

-- a slot written
pub written : (mem mem' : List ℕ) (w f l b c p room room' : ℕ) (r : List ℕ) → mem' ≡ patch (set mem (slot_of w f b c p) 1) (slot_of w f b c p + 1) r → length r ≡ w
    → holds_key f l b c p ≡ true → (l + 1 - f) * b * (w + 1) ≤ length mem → room' + cond (is_some (flat_find mem w f l b c p)) 0 1 ≡ room
    → Put (flat_of mem w f l b room) (flat_of mem' w f l b room') c p r
written mem mem' w f l b c p room room' r e wide t fits rooms =
    let i = key_out f l b c p t in
    let s : ℕ = slot_of w f b c p in
    let within : s + (w + 1) ≤ (l + 1 - f) * b * (w + 1) = slot_fits w f l b c p i.0 i.1 i.3 in
    let marked : List ℕ = set mem s 1 in
    let lm : length marked ≡ length mem = length-set mem s 1 in
    let fit : s + 1 + length r ≤ length marked = omega arith in
    let len : length mem' ≡ length mem = ap length e ∙ length_patch marked (s + 1) r fit ∙ lm in
    let mark : get_or mem' s 0 ≡ 1 = ap (λ xs. get_or xs s 0) e ∙ getD_patch marked (s + 1) r fit s (inl (omega arith)) ∙ get_or-set_same mem s 1 0 (omega arith) in
    let body : part mem' (s + 1) w ≡ r = ap (λ xs. part xs (s + 1) w) e ∙ ap (λ n. part (patch marked (s + 1) r) (s + 1) n) (sym wide) ∙ part_patch marked (s + 1) r fit in
    let far : (k : ℕ) → (k < s) ⊎ (s + (w + 1) ≤ k) → get_or mem' k 0 ≡ get_or mem k 0 =
    λ k o. ap (λ xs. get_or xs k 0) e ∙ getD_patch marked (s + 1) r fit k (elim o [ inl a ↦ inl (omega arith) | inr a ↦ inr (omega arith) ])
    ∙ get_or-set_other mem s k 1 0 (elim o [ inl a ↦ omega arith | inr a ↦ omega arith ]) in
    record {
      limits = record { width = refl; first = refl; last = refl; bound = refl };
      here = flat_find_inside mem' w f l b c p t ∙ ap (λ m. cond (eqb m 1) (Some (part mem' (s + 1) w)) None) mark ∙ ap Some body;
      others = λ d q ne. flat_find_same mem mem' w f l b d q len
          (λ j k x y. elim (slots_apart w f b c p d q i.0 j.0 i.3 j.3 ne) [ inl a ↦ far k (inl (omega arith)) | inr a ↦ far k (inr (omega arith)) ]);
      room = rooms;
    }

-- only keys inside are found, with records of the width
pub only : (mem : List ℕ) (w f l b c p : ℕ) (r : List ℕ) → (l + 1 - f) * b * (w + 1) ≤ length mem → flat_find mem w f l b c p ≡ Some r → (holds_key f l b c p ≡ true) × (length r ≡ w)
only mem w f l b c p r fits e =
    elim (cases_Bool (holds_key f l b c p)) [
      | inr t ↦ (let z : ◌≡◌ {A = ℕ} 0 1 = cc (cond-false (holds_key f l b c p) (slot_at mem w (slot_of w f b c p)) None t) in let q : ⊥ = omega arith in absurd q)
      | inl t ↦ (let i = key_out f l b c p t in
          let s : ℕ = slot_of w f b c p in
          let within : s + (w + 1) ≤ (l + 1 - f) * b * (w + 1) = slot_fits w f l b c p i.0 i.1 i.3 in
          elim (cases_Bool (eqb (get_or mem s 0) 1)) [
            | inl m ↦ (let same : part mem (s + 1) w ≡ r = cc (flat_find_inside mem w f l b c p t, cond-true (eqb (get_or mem s 0) 1) (Some (part mem (s + 1) w)) None m) in
                (t, ap length (sym same) ∙ simp (length-take, length-drop) (omega arith)))
            | inr m ↦ (let z : ◌≡◌ {A = ℕ} 0 1 = cc (flat_find_inside mem w f l b c p t, cond-false (eqb (get_or mem s 0) 1) (Some (part mem (s + 1) w)) None m) in let q : ⊥ = omega arith in absurd q)
          ])
    ]

-- whether a key is written is its mark
pub isSome_slot_at : (mem : List ℕ) (w i : ℕ) → is_some (slot_at mem w i) ≡ eqb (get_or mem i 0) 1
isSome_slot_at mem w i = elim (eqb (get_or mem i 0) 1) as (λ t. is_some (cond t (Some (part mem (i + 1) w)) None) ≡ t) [ true ↦ refl | false ↦ refl ]

pub isSome_flat_find : (mem : List ℕ) (w f l b c p : ℕ) → holds_key f l b c p ≡ true → is_some (flat_find mem w f l b c p) ≡ eqb (get_or mem (slot_of w f b c p) 0) 1
isSome_flat_find mem w f l b c p t = ap is_some (flat_find_inside mem w f l b c p t) ∙ isSome_slot_at mem w (slot_of w f b c p)

-- a row cleared
pub cleared : (mem mem' : List ℕ) (w f l b c room room' : ℕ) → length mem' ≡ length mem
    → (f ≤ c) × (c ≤ l)
    → ((k : ℕ) → k < b - 1 → get_or mem' (slot_of w f b c 1 + k * (w + 1)) 0 ≡ 0)
    → ((j : ℕ) → ((k : ℕ) → k < b - 1 → j ≡ slot_of w f b c 1 + k * (w + 1) → ⊥) → get_or mem' j 0 ≡ get_or mem j 0)
    → room' ≡ room + held (flat_of mem w f l b room) c
    → Cleared (flat_of mem w f l b room) (flat_of mem' w f l b room') c
cleared mem mem' w f l b c room room' len span marks rest rooms =
    record {
      limits = record { width = refl; first = refl; last = refl; bound = refl };
      here = λ p. elim (cases_Bool (holds_key f l b c p)) [
        | inr t ↦ cond-false (holds_key f l b c p) _ _ t
        | inl t ↦ (let i = key_out f l b c p t in
            let at : p - 1 + 1 ≡ p = omega (arith, i) in
            let m : get_or mem' (slot_of w f b c p) 0 ≡ 0 = ap (λ q. get_or mem' (slot_of w f b c q) 0) (sym at) ∙ ap (λ q. get_or mem' q 0) (row_slot w f b c (p - 1)) ∙ marks (p - 1) (omega (arith, i)) in
            flat_find_inside mem' w f l b c p t ∙ ap (λ x. cond (eqb x 1) (Some (part mem' (slot_of w f b c p + 1) w)) None) m)
      ];
      others = λ d p ne. flat_find_same mem mem' w f l b d p len
          (λ j k x y. rest k (λ i h e.
          let r : slot_of w f b c (i + 1) ≡ slot_of w f b c 1 + i * (w + 1) = row_slot w f b c i in
          elim (slots_apart w f b c (i + 1) d p span.0 j.0 (omega arith) j.3 (λ u _. ne u)) [ inl a ↦ omega arith | inr a ↦ omega arith ]));
      room = rooms;
    }

-- where each mark is 0 nothing is found
pub none_found : (mem : List ℕ) (w f l b : ℕ) → ((k : ℕ) → k < (l + 1 - f) * b → get_or mem (0 + k * (w + 1)) 0 ≡ 0) → (c p : ℕ) → flat_find mem w f l b c p ≡ None
unfolding slot_of
none_found mem w f l b marks c p =
    elim (cases_Bool (holds_key f l b c p)) [
      | inr t ↦ cond-false (holds_key f l b c p) _ _ t
      | inl t ↦ (let i = key_out f l b c p t in
          let m : get_or mem (slot_of w f b c p) 0 ≡ 0 = ap (λ q. get_or mem q 0) (sym (zero-add (((c - f) * b + p) * (w + 1)))) ∙ marks ((c - f) * b + p) (index_lt f l b c p i.0 i.1 i.3) in
          flat_find_inside mem w f l b c p t ∙ ap (λ x. cond (eqb x 1) (Some (part mem (slot_of w f b c p + 1) w)) None) m)
    ]

-- a slot written, as the code has it: the slot's start by its name, and the room by the slot
pub put_slot : (mem mem' : List ℕ) (w f l b c p room room' at : ℕ) (r : List ℕ) → at ≡ slot_of w f b c p → mem' ≡ patch (set mem at 1) (at + 1) r
    → length r ≡ w → holds_key f l b c p ≡ true → (l + 1 - f) * b * (w + 1) ≤ length mem → room' + cond (is_some (slot_at mem w at)) 0 1 ≡ room
    → Put (flat_of mem w f l b room) (flat_of mem' w f l b room') c p r
put_slot mem mem' w f l b c p room room' at r e items wide t fits rooms =
    written mem mem' w f l b c p room room' r (items ∙ ap (λ i. patch (set mem i 1) (i + 1) r) e) wide t fits
    (ap (λ o. room' + cond (is_some o) 0 1) (flat_find_inside mem w f l b c p t ∙ ap (slot_at mem w) (sym e)) ∙ rooms)

-- a closing's marks cleared, as the code has it
pub clear_slots : (mem mem' : List ℕ) (w f l b c room n base : ℕ) → base ≡ slot_of w f b c 1 → length mem' ≡ length mem → (f ≤ c) × (c ≤ l)
    → ((k : ℕ) → k < b - 1 → get_or mem' (base + k * (w + 1)) 0 ≡ 0)
    → ((j : ℕ) → ((k : ℕ) → k < b - 1 → j ≡ base + k * (w + 1) → ⊥) → get_or mem' j 0 ≡ get_or mem j 0)
    → n ≡ held (flat_of mem w f l b room) c
    → Cleared (flat_of mem w f l b room) (flat_of mem' w f l b (room + n)) c
clear_slots mem mem' w f l b c room n base e len span marks rest count =
    cleared mem mem' w f l b c room (room + n) len span
    (λ k h. ap (λ i. get_or mem' (i + k * (w + 1)) 0) (sym e) ∙ marks k h)
    (λ j o. rest j (λ k h x. o k h (x ∙ ap (λ i. i + k * (w + 1)) e)))
    (ap (λ x. room + x) count)

-- an absent key leaves room, where every key inside is written or counted in the room
pub flat_has_room : (mem : List ℕ) (w f l b c p room at : ℕ) → at ≡ slot_of w f b c p → holds_key f l b c p ≡ true → room + held_all (flat_of mem w f l b room) ≡ (l + 1 - f) * (b - 1)
    → slot_at mem w at ≡ None → 1 ≤ room
flat_has_room mem w f l b c p room at e t counts none =
    omega (arith, counts, not_all (flat_of mem w f l b room) c p t (flat_find_inside mem w f l b c p t ∙ ap (slot_at mem w) (sym e) ∙ none))

accepted : (a : Bool) → cond (not a) (Some MemoryUnfit) None ≡ None → a ≡ true
accepted true e = refl
accepted false e = let z : ◌≡◌ {A = ℕ} 0 1 = cc in let q : ⊥ = omega arith in absurd q

-- what a measuring that accepts says
pub flat_fits : (w f l b n : ℕ) → flat_refusal w f l b n ≡ None → Valid w f l b × (flat_bytes w f l b ≤ n)
flat_fits w f l b n e =
    let t = and_parts (valid_limits w f l b) (leb (flat_bytes w f l b) n) (accepted (valid_limits w f l b && leb (flat_bytes w f l b) n) e) in
    (valid_out w f l b t.0, leb-true (flat_bytes w f l b) n t.1)

-- no number on the way is too large for a machine word
pub flat_small : (w f l b : ℕ) → 1 ≤ f → l ≤ 9999 → b ≤ 2097152 → w ≤ 128 → (l + 1 - f) * b * (w + 1) ≤ 9999 * 2097152 * 129
flat_small w f l b starts ends most narrow =
    let rows : (l + 1 - f) * b ≤ 9999 * 2097152 = mul-le (l + 1 - f) b 9999 2097152 (omega arith) (omega arith) in
    mul-le ((l + 1 - f) * b) (w + 1) (9999 * 2097152) 129 rows (omega arith)

-- what a flat store means is sound
pub flat_sounds : (mem : List ℕ) (w f l b room n : ℕ) → (1 ≤ w) × (w ≤ 128) → (1 ≤ f) × (f ≤ l + 1) × (l ≤ 9999) → (2 ≤ b) × (b ≤ 2097152)
    → flat_bytes w f l b ≤ n → n ≡ length mem → room + held_all (flat_of mem w f l b room) ≡ flat_room f l b → Sound (flat_of mem w f l b room)
flat_sounds mem w f l b room n widths closings places fits len counts =
    let in_it : (l + 1 - f) * b * (w + 1) ≤ length mem = omega arith in
    record {
      wide = widths.0;
      narrow = widths.1;
      starts = closings.0;
      ends = closings.2;
      two = places.0;
      most = places.1;
      shut = λ h. let z : l + 1 - f ≡ 0 = omega arith in omega (arith, counts, ap (λ k. k * (b - 1)) z, zero-mul (b - 1));
      keys = λ c p r e. (only mem w f l b c p r in_it e).0;
      records = λ c p r e. (only mem w f l b c p r in_it e).1;
    }
