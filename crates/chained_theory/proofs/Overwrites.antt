-- A written key in a chained store, written again.
use Rattle.std.proofs.Common.{◌≡◌, ℕ, ◌+◌, ◌*◌, ◌<◌, ◌≤◌, true, cond, ◌&&◌, eqb, ◌⊎◌, List, [], ◌∷◌, length, get_or, is_some, Some, None, sym, refl, ap, ◌∙◌, subst, inl, inr, arith}
use Rattle.std.proofs.lemmas.Bool.{cases_eq, cases_Bool, cond-true, cond-false, ne_eqb}
use Rattle.memory.specs.Part.{part, patch}
use Rattle.memory.proofs.Parts.{length_patch, getD_patch, part_patch, part_same}
use Rattle.store.specs.Calls.{Put}
use Rattle.store.proofs.Tallies.{tally_same, le_sum_to}
use Rattle.store.specs.Meaning.{holds_key}
use Rattle.chained_theory.specs.Layout.{start_of, next_at, closing_at, place_at, head_at, bucket_of, has_key, seek_in, scan_at, count_of, record_at, chained_find, chained_of}
use Rattle.chained_theory.specs.Links.{Links, Fresh, Laid, Linked, SameRecord}
use Rattle.store.proofs.Inside.{key_out}
use Rattle.chained_theory.proofs.Walks.{record_fits}
use Rattle.chained_theory.proofs.Chains.{walk_seeks, links_stay, seek_stays, dead_stay, live_stay, scan_same, scan_has, has_parts}
use Rattle.chained_theory.proofs.Fronts.{list_scans}
use Rattle.chained_theory.proofs.Writes.{be4_same, apart, past_heads}
use Rattle.chained_theory.proofs.Puts.{same_record}

zero_fresh : (mem : List ℕ) (w n i : ℕ) (xs : List ℕ) → Links mem w n i xs → Fresh 0 xs
zero_fresh mem w n i [] l = tt
zero_fresh mem w n i (y ∷ ys) l = ((λ e. omega (arith, l.1)), zero_fresh mem w n (next_at mem w y) ys l.3)

-- links and keys stay
module _ (mem mem' : List ℕ) (w n : ℕ) (heads : (j : ℕ) → j < 17 → head_at mem' j ≡ head_at mem j) (same : (y : ℕ) → 1 ≤ y → y ≤ n → SameRecord mem mem' w y) where
  all : (y : ℕ) → 1 ≤ y → y ≤ n → (y ≡ 0 → ⊥) → SameRecord mem mem' w y
  all y a h _ = same y a h

  pub over_scan : (d q : ℕ) → scan_at mem' w n d q ≡ scan_at mem w n d q
  over_scan d q = scan_same mem mem' w n d q (λ y a h. ap (λ k. eqb k d && eqb (place_at mem' w y) q) (same y a h).closing ∙ ap (λ k. eqb (closing_at mem w y) d && eqb k q) (same y a h).place)

  over_count : count_of mem' w n 0 ≡ count_of mem w n 0
  over_count = tally_same (λ k. eqb (closing_at mem w (k + 1)) 0) (λ k. eqb (closing_at mem' w (k + 1)) 0) n (λ k h. ap (λ z. eqb z 0) (same (k + 1) (omega arith) (omega arith)).closing)

  pub over_laid : Laid mem w n → Laid mem' w n
  over_laid k =
      let fresh : (j : ℕ) → j < 17 → Fresh 0 (k.chain j) = λ j h. zero_fresh mem w n (head_at mem j) (k.chain j) (k.links j h) in
      let links : (j : ℕ) → j < 17 → Links mem' w n (head_at mem' j) (k.chain j) = λ j h. subst (λ i. Links mem' w n i (k.chain j)) (sym (heads j h)) (links_stay mem mem' w n n 0 (omega arith) all (head_at mem j) (k.chain j) (fresh j h) (k.links j h)) in
      record {
        chain = k.chain;
        links = links;
        dead = dead_stay mem mem' w n n 0 (omega arith) all (head_at mem 0) (k.chain 0) (fresh 0 (omega arith)) (k.links 0 (omega arith)) k.dead;
        apart = k.apart;
        live = λ j a h. live_stay mem mem' w n n 0 (omega arith) all (head_at mem j) (k.chain j) (fresh j h) (k.links j h) (k.live j a h);
        whole = k.whole;
        rooms = k.rooms ∙ sym over_count;
        scans = λ c p a.
            let j : ℕ = bucket_of c p in
            let h : bucket_of c p < 17 = omega arith in
            let short : length (k.chain j) ≤ n = omega (arith, le_sum_to (λ i. length (k.chain i)) 17 j h, k.whole) in
            walk_seeks mem' w n n (head_at mem' j) (k.chain j) c p (links j h) short
            ∙ seek_stays mem mem' w n n 0 (omega arith) all (head_at mem j) (k.chain j) c p (fresh j h) (k.links j h) ∙ list_scans mem w n k c p a ∙ sym (over_scan c p);
      }

  pub over_linked : (f l b room : ℕ) → Linked mem w n f l b room → Linked mem' w n f l b room
  over_linked f l b room k = record {
    laid = over_laid k.laid;
    keys = record {
      once = λ y a h live. let s = same y a h in
          ap (λ z. scan_at mem' w n z (place_at mem' w y)) s.closing ∙ ap (scan_at mem' w n (closing_at mem w y)) s.place ∙ over_scan _ _ ∙ k.keys.once y a h (λ e. live (s.closing ∙ e));
      inside = λ y a h live. let s = same y a h in
          ap (λ z. holds_key f l b z (place_at mem' w y)) s.closing ∙ ap (holds_key f l b (closing_at mem w y)) s.place ∙ k.keys.inside y a h (λ e. live (s.closing ∙ e));
      free = over_count ∙ k.keys.free;
    };
  }

module _ (mem : List ℕ) (w n f l b room c p : ℕ) (r : List ℕ) (k : Linked mem w n f l b room) (fits : 68 + n * (12 + w) ≤ length mem) (starts : 1 ≤ f)
    (inside : holds_key f l b c p ≡ true) (wide : length r ≡ w) (found : seek_in mem w n c p ≡ 0 → ⊥) where
  abbrev x : ℕ
  x = seek_in mem w n c p

  abbrev after : List ℕ
  after = patch mem (start_of w (seek_in mem w n c p) + 12) r

  clow : 1 ≤ c
  clow = omega (arith, (key_out f l b c p inside).0)

  xe : x ≡ scan_at mem w n c p
  xe = k.laid.scans c p clow

  within : (has_key mem w x c p ≡ true) × (x ≤ n)
  within = let s = scan_has mem w n c p (λ e. found (xe ∙ e)) in (ap (λ z. has_key mem w z c p) xe ∙ s.0, omega (arith, xe, s.1))

  low : 1 ≤ x
  low = omega (arith, found)

  fit : start_of w x + 12 + length r ≤ length mem
  fit = omega (arith, record_fits w n x low within.1)

  keeps : (q : ℕ) → (q < start_of w x + 12) ⊎ (start_of w x + (12 + w) ≤ q) → get_or after q 0 ≡ get_or mem q 0
  keeps q o = getD_patch mem (start_of w x + 12) r fit q (elim o [ inl a ↦ inl a | inr a ↦ inr (omega arith) ])

  -- bytes that are not of that record's last w
  clear_of : (y : ℕ) → 1 ≤ y → (q : ℕ) → start_of w y ≤ q → q < start_of w y + 12 → get_or after q 0 ≡ get_or mem q 0
  clear_of y a q u v = elim (cases_eq y x) [
    | inl e ↦ keeps q (inl (omega (arith, ap (start_of w) e)))
    | inr d ↦ elim (apart w x y low a d) [ inl o ↦ keeps q (inl (omega arith)) | inr o ↦ keeps q (inr (omega arith)) ]
  ]

  pub heads_stay : (j : ℕ) → j < 17 → head_at after j ≡ head_at mem j
  unfolding head_at
  heads_stay j h = be4_same mem after (4 * j) (λ q u v. keeps q (inl (omega (arith, past_heads w x))))

  pub keys_stay : (y : ℕ) → 1 ≤ y → y ≤ n → SameRecord mem after w y
  unfolding next_at closing_at place_at
  keys_stay y a h = record {
    next = be4_same mem after (start_of w y) (λ q u v. clear_of y a q u (omega arith));
    closing = be4_same mem after (start_of w y + 4) (λ q u v. clear_of y a q (omega arith) (omega arith));
    place = be4_same mem after (start_of w y + 8) (λ q u v. clear_of y a q (omega arith) (omega arith));
  }

  pub overwrite_linked : Linked after w n f l b room
  overwrite_linked = over_linked mem after w n heads_stay keys_stay f l b room k

  pub overwrite_written : Put (chained_of mem w n f l b room) (chained_of after w n f l b room) c p r
  overwrite_written =
      let laid : Laid after w n = over_laid mem after w n heads_stay keys_stay k.laid in
      let was : chained_find mem w n f l b c p ≡ Some (part mem (start_of w x + 12) w) = cond-true (holds_key f l b c p) _ None inside ∙ cond-false (eqb x 0) None _ (ne_eqb x 0 found) in
      let none : cond {A = ℕ} (is_some (chained_find mem w n f l b c p)) 0 1 ≡ 0 = cond-true {A = ℕ} (is_some (chained_find mem w n f l b c p)) 0 1 (ap is_some was) in
      record {
        limits = record { width = refl; first = refl; last = refl; bound = refl };
        here = cond-true (holds_key f l b c p) (record_at after w (seek_in after w n c p)) None inside ∙ ap (record_at after w) (laid.scans c p clow ∙ over_scan mem after w n heads_stay keys_stay c p ∙ sym xe)
            ∙ cond-false (eqb x 0) None (Some (part after (start_of w x + 12) w)) (ne_eqb x 0 found) ∙ ap Some (ap (part after (start_of w x + 12)) (sym wide) ∙ part_patch mem (start_of w x + 12) r fit);
        others = λ d q ne. elim (cases_Bool (holds_key f l b d q)) [
          | inl t ↦ (let dlow : 1 ≤ d = omega (arith, (key_out f l b d q t).0) in
              let y : ℕ = scan_at mem w n d q in
              let same : record_at after w y ≡ record_at mem w y = same_record mem after w y (λ z.
              let h = scan_has mem w n d q z in
              let other : y ≡ x → ⊥ = λ e.
              let k1 = has_parts mem w x c p within.0 in
              let k2 = has_parts mem w y d q h.0 in
              ne (sym k2.0 ∙ ap (closing_at mem w) e ∙ k1.0) (sym k2.1 ∙ ap (place_at mem w) e ∙ k1.1) in
              part_same mem after (start_of w y + 12) w (length_patch mem (start_of w x + 12) r fit)
              (λ i u v. elim (apart w x y low (omega (arith, z)) other) [ inl o ↦ keeps i (inl (omega arith)) | inr o ↦ keeps i (inr (omega arith)) ])) in
              ap (λ o. cond (holds_key f l b d q) o None) (ap (record_at after w) (laid.scans d q dlow ∙ over_scan mem after w n heads_stay keys_stay d q) ∙ same ∙ ap (record_at mem w) (sym (k.laid.scans d q dlow))))
          | inr t ↦ cond-false (holds_key f l b d q) _ None t ∙ sym (cond-false (holds_key f l b d q) _ None t)
        ];
        room = omega (arith, none);
      }
