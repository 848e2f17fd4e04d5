-- Steps along a chain.
use Rattle.std.proofs.Common.{◌≡◌, ℕ, zero, suc, ◌+◌, ◌-◌, ◌*◌, ◌<◌, ◌≤◌, true, false, cond, not, eqb, List, length, is_some, Some, None, sym, refl, ap, ◌∙◌, inl, inr, mul-le-mul_right, add-mul, one-mul, arith, length-drop, length-take}
use Rattle.memory.specs.Part.{part}
use Rattle.std.proofs.lemmas.Bool.{cases_eq, cases_Bool, cond-true, cond-false, eq-eqb, ne_eqb, both_ways}
use Rattle.store.specs.Meaning.{Sound, holds_key}
use Rattle.store.proofs.Inside.{key_out, key_in}
use Rattle.chained_theory.specs.Layout.{start_of, next_at, head_at, bucket_of, has_key, seek_from, seek_in, chained_bytes, chained_find, chained_of, record_at}

pub next_record : (i j k : ℕ) → i < j → i * k + k ≤ j * k
next_record i j k h = omega (arith, add-mul i 1 k, one-mul k, mul-le-mul_right {m = i + 1} {n = j} k (omega arith))

pub record_fits : (w n i : ℕ) → 1 ≤ i → i ≤ n → start_of w i + (12 + w) ≤ 68 + n * (12 + w)
unfolding start_of
record_fits w n i a b = omega (arith, next_record (i - 1) n (12 + w) (omega arith))

pub seek_none : (mem : List ℕ) (w n i c p : ℕ) → i ≡ 0 → seek_from mem w n i c p ≡ 0
seek_none mem w zero i c p e = refl
seek_none mem w (suc n) i c p e = cond-true (eqb i 0) 0 _ (eq-eqb i 0 e)

pub seek_out : (mem : List ℕ) (w n i c p : ℕ) → n ≡ 0 → seek_from mem w n i c p ≡ 0
seek_out mem w zero i c p e = refl
seek_out mem w (suc n) i c p e = omega arith

pub seek_here : (mem : List ℕ) (w n i c p : ℕ) → 0 < n → (i ≡ 0 → ⊥) → has_key mem w i c p ≡ true → seek_from mem w n i c p ≡ i
seek_here mem w zero i c p l d t = omega arith
seek_here mem w (suc n) i c p l d t = cond-false (eqb i 0) 0 _ (ne_eqb i 0 d) ∙ cond-true (has_key mem w i c p) i _ t

pub seek_more : (mem : List ℕ) (w n i c p : ℕ) → 0 < n → (i ≡ 0 → ⊥) → has_key mem w i c p ≡ false → seek_from mem w n i c p ≡ seek_from mem w (n - 1) (next_at mem w i) c p
seek_more mem w zero i c p l d t = omega arith
seek_more mem w (suc n) i c p l d t = cond-false (eqb i 0) 0 _ (ne_eqb i 0 d) ∙ cond-false (has_key mem w i c p) i _ t ∙ ap (λ k. seek_from mem w k (next_at mem w i) c p) (omega arith)

-- a key is written if the walk finds it
pub isSome_chained_find : (mem : List ℕ) (w n f l b c p : ℕ) → (f ≤ c) × (c ≤ l) × (1 ≤ p) × (p < b) → is_some (chained_find mem w n f l b c p) ≡ not (eqb (seek_in mem w n c p) 0)
isSome_chained_find mem w n f l b c p h =
    let t : holds_key f l b c p ≡ true = key_in f l b c p h.0 h.1 h.2 h.3 in
    ap is_some (cond-true (holds_key f l b c p) (record_at mem w (seek_in mem w n c p)) None t)
    ∙ elim (eqb (seek_in mem w n c p) 0) as (λ v. is_some (cond v None (Some (part mem (start_of w (seek_in mem w n c p) + 12) w))) ≡ not v) [ true ↦ refl | false ↦ refl ]

pub rec_next : (w i : ℕ) → 1 ≤ i → start_of w i + (12 + w) ≡ start_of w (i + 1)
unfolding start_of
rec_next w i a =
    let e : i + 1 - 1 ≡ i - 1 + 1 = omega arith in
    omega (arith, add-mul (i - 1) 1 (12 + w), one-mul (12 + w), ap (λ z. z * (12 + w)) e)

-- what a walk comes to has the key, and lies within
pub seek_has : (mem : List ℕ) (w n fuel i c p : ℕ) → i ≤ n → ((y : ℕ) → 1 ≤ y → y ≤ n → next_at mem w y ≤ n) → seek_from mem w fuel i c p ≤ n
seek_has mem w n zero i c p h r = omega arith
seek_has mem w n (suc fuel) i c p h r =
    elim (cases_eq i 0) [
      | inl e ↦ omega (arith, cond-true {A = ℕ} (eqb i 0) 0 (cond (has_key mem w i c p) i (seek_from mem w fuel (next_at mem w i) c p)) (eq-eqb i 0 e))
      | inr d ↦ (let go : seek_from mem w (suc fuel) i c p ≡ cond (has_key mem w i c p) i (seek_from mem w fuel (next_at mem w i) c p) = cond-false (eqb i 0) 0 _ (ne_eqb i 0 d) in
          elim (cases_Bool (has_key mem w i c p)) [
            | inl t ↦ omega (arith, go, cond-true {A = ℕ} (has_key mem w i c p) i (seek_from mem w fuel (next_at mem w i) c p) t)
            | inr t ↦ omega (arith, go, cond-false {A = ℕ} (has_key mem w i c p) i (seek_from mem w fuel (next_at mem w i) c p) t, seek_has mem w n fuel (next_at mem w i) c p (r i (omega arith) h) r)
          ])
    ]

-- only keys inside are found, with records of the width
pub only : (mem : List ℕ) (w n f l b c p : ℕ) (r : List ℕ) → (1 ≤ n → 68 + n * (12 + w) ≤ length mem) → (1 ≤ n → (j : ℕ) → j < 17 → head_at mem j ≤ n) → ((y : ℕ) → 1 ≤ y → y ≤ n → next_at mem w y ≤ n)
    → chained_find mem w n f l b c p ≡ Some r → (holds_key f l b c p ≡ true) × (length r ≡ w)
only mem w n f l b c p r fits heads nexts e =
    elim (cases_Bool (holds_key f l b c p)) [
      | inr t ↦ (let z : ◌≡◌ {A = ℕ} 0 1 = cc (cond-false (holds_key f l b c p) (record_at mem w (seek_in mem w n c p)) None t) in let q : ⊥ = omega arith in absurd q)
      | inl t ↦ (let x : ℕ = seek_in mem w n c p in
          let is : record_at mem w x ≡ Some r = sym (cond-true (holds_key f l b c p) (record_at mem w x) None t) ∙ e in
          elim (cases_eq x 0) [
            | inl z ↦ (let y : ◌≡◌ {A = ℕ} 0 1 = cc (cond-true (eqb x 0) None (Some (part mem (start_of w x + 12) w)) (eq-eqb x 0 z)) in let q : ⊥ = omega arith in absurd q)
            | inr d ↦ (let some : 1 ≤ n = (elim (cases_eq n 0) [ inl z ↦ absurd (d (seek_out mem w n (head_at mem (bucket_of c p)) c p z)) | inr z ↦ omega arith ]) in
                let high : x ≤ n = seek_has mem w n n (head_at mem (bucket_of c p)) c p (heads some (bucket_of c p) (omega arith)) nexts in
                let within : start_of w x + (12 + w) ≤ length mem = omega (arith, record_fits w n x (omega (arith, d)) high, fits some) in
                let same : part mem (start_of w x + 12) w ≡ r = cc (cond-false (eqb x 0) None (Some (part mem (start_of w x + 12) w)) (ne_eqb x 0 d)) in
                (t, ap length (sym same) ∙ simp (length-take, length-drop) (omega arith)))
          ])
    ]

-- a key that a walk finds is written
pub found_some : (mem : List ℕ) (w n f l b c p : ℕ) → holds_key f l b c p ≡ true → (seek_in mem w n c p ≡ 0 → ⊥) → chained_find mem w n f l b c p ≡ None → ⊥
found_some mem w n f l b c p t ne e =
    both_ways true (sym (ap not (ne_eqb (seek_in mem w n c p) 0 ne)) ∙ sym (isSome_chained_find mem w n f l b c p (key_out f l b c p t)) ∙ ap is_some e) refl

-- what a chained store means is sound
pub chained_sounds : (mem : List ℕ) (w n f l b room size : ℕ) → (1 ≤ w) × (w ≤ 128) → (1 ≤ f) × (f ≤ l + 1) × (l ≤ 9999) → (2 ≤ b) × (b ≤ 2097152) → (l < f → room ≡ 0)
    → (1 ≤ n → chained_bytes w n ≤ size) → size ≡ length mem → (1 ≤ n → (j : ℕ) → j < 17 → head_at mem j ≤ n) → ((y : ℕ) → 1 ≤ y → y ≤ n → next_at mem w y ≤ n) → Sound (chained_of mem w n f l b room)
chained_sounds mem w n f l b room size widths closings places shut fits len heads nexts =
    let in_it : 1 ≤ n → 68 + n * (12 + w) ≤ length mem = λ h. omega (arith, fits h) in
    record {
      wide = widths.0;
      narrow = widths.1;
      starts = closings.0;
      ends = closings.2;
      two = places.0;
      most = places.1;
      shut = shut;
      keys = λ c p r e. (only mem w n f l b c p r in_it heads nexts e).0;
      records = λ c p r e. (only mem w n f l b c p r in_it heads nexts e).1;
    }
