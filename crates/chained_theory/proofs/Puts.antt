-- A new key in a chained store.
use Rattle.std.proofs.Common.{◌≡◌, ℕ, ◌+◌, ◌-◌, ◌*◌, ◌<◌, ◌≤◌, true, cond, eqb, List, [], ◌∷◌, length, is_some, Some, None, sym, refl, ap, ◌∙◌, subst, inl, inr, arith}
use Rattle.std.proofs.lemmas.Bool.{cases_eq, cases_Bool, cond-true, cond-false, eq-eqb, ne_eqb}
use Rattle.memory.specs.Part.{part}
use Rattle.store.specs.Calls.{Put}
use Rattle.store.specs.Meaning.{holds_key}
use Rattle.chained_theory.specs.Layout.{start_of, next_at, closing_at, place_at, head_at, bucket_of, seek_in, scan_at, count_of, record_at, chained_find, chained_of, push_on}
use Rattle.chained_theory.specs.Links.{Links, Dead, Laid, Linked, Pushed}
use Rattle.store.proofs.Inside.{key_out}
use Rattle.chained_theory.proofs.Chains.{scan_has, has_parts}
use Rattle.chained_theory.proofs.Fronts.{push_laid, push_scan_here, push_scan_others, fewer}
use Rattle.chained_theory.proofs.Writes.{pushes}

-- a chain with a record starts at one
front : (mem : List ℕ) (w n i : ℕ) (xs : List ℕ) → Links mem w n i xs → 1 ≤ length xs → (t : List ℕ) × (xs ≡ i ∷ t)
front mem w n i [] l h = let z : ⊥ = omega arith in absurd z
front mem w n i (x ∷ xs) l h = (xs, ap (λ y. y ∷ xs) (sym l.0))

pub first_free : (mem : List ℕ) (w n f l b room : ℕ) (k : Linked mem w n f l b room) → 1 ≤ room → (t : List ℕ) × (k.laid.chain 0 ≡ head_at mem 0 ∷ t)
first_free mem w n f l b room k h = front mem w n (head_at mem 0) (k.laid.chain 0) (k.laid.links 0 (omega arith)) (omega (arith, k.laid.rooms, k.keys.free))

pub free_record : (mem : List ℕ) (w n f l b room : ℕ) (k : Linked mem w n f l b room) → 1 ≤ room → (1 ≤ head_at mem 0) × (head_at mem 0 ≤ n)
free_record mem w n f l b room k h =
    let t = first_free mem w n f l b room k h in
    let q : Links mem w n (head_at mem 0) (head_at mem 0 ∷ t.0) = subst (λ xs. Links mem w n (head_at mem 0) xs) t.1 (k.laid.links 0 (omega arith)) in
    (q.1, q.2)

pub same_record : (mem mem' : List ℕ) (w y : ℕ) → ((y ≡ 0 → ⊥) → part mem' (start_of w y + 12) w ≡ part mem (start_of w y + 12) w) → record_at mem' w y ≡ record_at mem w y
same_record mem mem' w y h = elim (cases_eq y 0) [
  | inl e ↦ cond-true (eqb y 0) None _ (eq-eqb y 0 e) ∙ sym (cond-true (eqb y 0) None _ (eq-eqb y 0 e))
  | inr d ↦ ap (λ r. cond (eqb y 0) None (Some r)) (h d)
]

module _ (mem : List ℕ) (w n f l b room c p : ℕ) (r : List ℕ) (k : Linked mem w n f l b room) (fits : 68 + n * (12 + w) ≤ length mem) (starts : 1 ≤ f) (inside : holds_key f l b c p ≡ true)
    (wide : length r ≡ w) (absent : seek_in mem w n c p ≡ 0) (some : 1 ≤ room) where
  abbrev x : ℕ
  x = head_at mem 0

  abbrev mem' : List ℕ
  mem' = push_on mem w (head_at mem 0) (bucket_of c p) c p r

  bucket : bucket_of c p < 17
  bucket = omega arith

  clow : 1 ≤ c
  clow = omega (arith, (key_out f l b c p inside).0)

  within : (1 ≤ x) × (x ≤ n)
  within = free_record mem w n f l b room k some

  pub done : Pushed mem mem' w n x (bucket_of c p) c p r
  done = pushes mem w n x (bucket_of c p) c p r fits within.0 within.1 (omega arith) bucket wide

  first : (t : List ℕ) × (k.laid.chain 0 ≡ head_at mem 0 ∷ t)
  first = first_free mem w n f l b room k some

  dead_x : closing_at mem w x ≡ 0
  dead_x = let q : Dead mem w (x ∷ first.0) = subst (λ xs. Dead mem w xs) first.1 k.laid.dead in q.0

  none : scan_at mem w n c p ≡ 0
  none = sym (k.laid.scans c p clow) ∙ absent

  laid : Laid mem' w n
  laid = push_laid mem mem' w n (bucket_of c p) c p r k.laid first.0 first.1 (omega arith) bucket refl clow none done

  here : scan_at mem' w n c p ≡ x
  here = push_scan_here mem mem' w n (bucket_of c p) c p r k.laid first.0 first.1 (omega arith) bucket refl clow none done

  others : (d q : ℕ) → 1 ≤ d → (d ≡ c → q ≡ p → ⊥) → scan_at mem' w n d q ≡ scan_at mem w n d q
  others = push_scan_others mem mem' w n (bucket_of c p) c p r k.laid first.0 first.1 (omega arith) bucket refl clow none done

  count : count_of mem w n 0 ≡ count_of mem' w n 0 + 1
  count = fewer mem mem' w n (bucket_of c p) c p r k.laid first.0 first.1 (omega arith) bucket refl clow none done

  pub push_linked : Linked mem' w n f l b (room - 1)
  push_linked = record {
    laid = laid;
    keys = record {
      once = λ y a h live. elim (cases_eq y x) [
        | inl e ↦ ap (λ z. scan_at mem' w n (closing_at mem' w z) (place_at mem' w z)) e ∙ ap (λ z. scan_at mem' w n z (place_at mem' w x)) done.closing ∙ ap (scan_at mem' w n c) done.place ∙ here ∙ sym e
        | inr d ↦ (let s = done.others y a h d in
            let alive : closing_at mem w y ≡ 0 → ⊥ = λ e. live (s.closing ∙ e) in
            let was : scan_at mem w n (closing_at mem w y) (place_at mem w y) ≡ y = k.keys.once y a h alive in
            let other : closing_at mem w y ≡ c → place_at mem w y ≡ p → ⊥ = λ u v. omega (arith, sym was ∙ ap (λ z. scan_at mem w n z (place_at mem w y)) u ∙ ap (scan_at mem w n c) v ∙ none) in
            ap (λ z. scan_at mem' w n z (place_at mem' w y)) s.closing ∙ ap (scan_at mem' w n (closing_at mem w y)) s.place ∙ others (closing_at mem w y) (place_at mem w y) (omega (arith, alive)) other ∙ was)
      ];
      inside = λ y a h live. elim (cases_eq y x) [
        | inl e ↦ ap (λ z. holds_key f l b (closing_at mem' w z) (place_at mem' w z)) e ∙ ap (λ z. holds_key f l b z (place_at mem' w x)) done.closing ∙ ap (holds_key f l b c) done.place ∙ inside
        | inr d ↦ (let s = done.others y a h d in
            ap (λ z. holds_key f l b z (place_at mem' w y)) s.closing ∙ ap (holds_key f l b (closing_at mem w y)) s.place ∙ k.keys.inside y a h (λ e. live (s.closing ∙ e)))
      ];
      free = omega (arith, count, k.keys.free);
    };
  }

  pub push_written : Put (chained_of mem w n f l b room) (chained_of mem' w n f l b (room - 1)) c p r
  push_written =
      let was : chained_find mem w n f l b c p ≡ None = cond-true (holds_key f l b c p) (record_at mem w (seek_in mem w n c p)) None inside ∙ ap (record_at mem w) absent in
      let one : cond {A = ℕ} (is_some (chained_find mem w n f l b c p)) 0 1 ≡ 1 = cond-false {A = ℕ} (is_some (chained_find mem w n f l b c p)) 0 1 (ap is_some was) in
      let xz : x ≡ 0 → ⊥ = λ e. omega (arith, within.0) in
      record {
        limits = record { width = refl; first = refl; last = refl; bound = refl };
        here = cond-true (holds_key f l b c p) (record_at mem' w (seek_in mem' w n c p)) None inside ∙ ap (record_at mem' w) (laid.scans c p clow ∙ here)
            ∙ cond-false (eqb x 0) None (Some (part mem' (start_of w x + 12) w)) (ne_eqb x 0 xz) ∙ ap Some done.bytes;
        others = λ d q ne. elim (cases_Bool (holds_key f l b d q)) [
          | inl t ↦ (let dlow : 1 ≤ d = omega (arith, (key_out f l b d q t).0) in
              let y : ℕ = scan_at mem w n d q in
              let same : record_at mem' w y ≡ record_at mem w y = same_record mem mem' w y (λ z.
              let h = scan_has mem w n d q z in
              done.kept y (omega (arith, z)) h.1 (λ e. omega (arith, sym (has_parts mem w y d q h.0).0 ∙ ap (closing_at mem w) e ∙ dead_x))) in
              ap (λ o. cond (holds_key f l b d q) o None) (ap (record_at mem' w) (laid.scans d q dlow ∙ others d q dlow ne) ∙ same ∙ ap (record_at mem w) (sym (k.laid.scans d q dlow))))
          | inr t ↦ cond-false (holds_key f l b d q) _ None t ∙ sym (cond-false (holds_key f l b d q) _ None t)
        ];
        room = omega (arith, one);
      }

  -- no link leads out
  pub push_heads : ((i : ℕ) → 1 ≤ i → i ≤ n → next_at mem w i ≤ n) → ((j : ℕ) → j < 17 → head_at mem j ≤ n) → (j : ℕ) → j < 17 → head_at mem' j ≤ n
  push_heads ns hs j h =
      elim (cases_eq j (bucket_of c p)) [
        | inl e ↦ omega (arith, ap (head_at mem') e, done.headb, within)
        | inr d ↦ elim (cases_eq j 0) [
          | inl e ↦ omega (arith, ap (head_at mem') e, done.head0, ns x within.0 within.1)
          | inr z ↦ omega (arith, done.heads j h z d, hs j h)
        ]
      ]

  pub push_nexts : ((i : ℕ) → 1 ≤ i → i ≤ n → next_at mem w i ≤ n) → ((j : ℕ) → j < 17 → head_at mem j ≤ n) → (i : ℕ) → 1 ≤ i → i ≤ n → next_at mem' w i ≤ n
  push_nexts ns hs i a h =
      elim (cases_eq i x) [
        | inl e ↦ omega (arith, ap (next_at mem' w) e, done.next, hs (bucket_of c p) bucket)
        | inr d ↦ omega (arith, (done.others i a h d).next, ns i a h)
      ]
