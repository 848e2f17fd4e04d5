-- Counts of a closing's records, and a closing forgotten.
use Rattle.std.proofs.Common.{◌≡◌, ℕ, zero, suc, ◌+◌, ◌-◌, ◌<◌, ◌≤◌, Bool, true, false, cond, not, ◌&&◌, eqb, List, is_some, None, sym, refl, ap, ◌∙◌, inl, inr, add-one, arith}
use Rattle.std.proofs.lemmas.Bool.{cases_eq, cases_Bool, cond-true, cond-false, eq-eqb, ne_eqb}
use Rattle.store.specs.Counts.{tally, held}
use Rattle.store.specs.Calls.{Cleared}
use Rattle.store.proofs.Tallies.{tally_same, tally_put, tally_two, tally_all, tally_none, tally_le}
use Rattle.store.specs.Meaning.{holds_key}
use Rattle.chained_theory.specs.Layout.{closing_at, place_at, has_key, seek_in, scan_at, count_of, record_at, chained_find, chained_of}
use Rattle.chained_theory.specs.Links.{Laid, Keys, Linked, Forgot}
use Rattle.store.proofs.Inside.{key_out}
use Rattle.chained_theory.proofs.Walks.{isSome_chained_find}
use Rattle.chained_theory.proofs.Chains.{scan_same, scan_has, no_scan, has_parts, key_there, no_key}
use Rattle.chained_theory.proofs.Puts.{same_record}

module _ (mem : List ℕ) (w n f l b room c : ℕ) (keys : Keys mem w n f l b room) (some : 1 ≤ c) where
  abbrev seen : ℕ → ℕ → Bool
  seen k q = not (eqb (scan_at mem w k c (q + 1)) 0)

  -- a later record has a key of its own
  alone : (k : ℕ) → k < n → closing_at mem w (suc k) ≡ c → scan_at mem w k c (place_at mem w (suc k)) ≡ 0
  alone k h e =
      let p : ℕ = place_at mem w (suc k) in
      elim (cases_eq (scan_at mem w k c p) 0) [
        | inl z ↦ z
        | inr d ↦ (let y : ℕ = scan_at mem w k c p in
            let s = scan_has mem w k c p d in
            let parts = has_parts mem w y c p s.0 in
            let mine : scan_at mem w n c p ≡ suc k = ap (λ z. scan_at mem w n z p) (sym e) ∙ keys.once (suc k) (omega arith) (omega arith) (λ z. omega arith) in
            let its : scan_at mem w n c p ≡ y = ap (λ z. scan_at mem w n z p) (sym parts.0) ∙ ap (scan_at mem w n (closing_at mem w y)) (sym parts.1) ∙ keys.once y (omega (arith, d)) (omega (arith, s.1)) (λ z. omega (arith, parts.0)) in
            let z : ⊥ = omega (arith, mine, its, s.1) in absurd z)
      ]

  pub scan_count : (k : ℕ) → k ≤ n → tally (seen k) (b - 1) ≡ count_of mem w k c
  scan_count zero h = tally_none (seen 0) (b - 1) (λ q _. refl)
  scan_count (suc k) h =
      let p : ℕ = place_at mem w (suc k) in
      let up : closing_at mem w (k + 1) ≡ closing_at mem w (suc k) = ap (closing_at mem w) (add-one k) in
      let rest : tally (seen k) (b - 1) ≡ count_of mem w k c = scan_count k (omega arith) in
      let off : (q : ℕ) → (closing_at mem w (suc k) ≡ c → place_at mem w (suc k) ≡ q + 1 → ⊥) → seen (suc k) q ≡ seen k q =
      λ q ne. ap (λ z. not (eqb z 0)) (cond-false (has_key mem w (suc k) c (q + 1)) (suc k) (scan_at mem w k c (q + 1)) (no_key mem w (suc k) c (q + 1) ne)) in
      elim (cases_eq (closing_at mem w (suc k)) c) [
        | inl e ↦ (let i = key_out f l b _ p (keys.inside (suc k) (omega arith) h (λ z. omega arith)) in
            let at : p - 1 + 1 ≡ p = omega (arith, i.2) in
            let gone : seen k (p - 1) ≡ false = ap (λ z. not (eqb (scan_at mem w k c z) 0)) at ∙ ap (λ z. not (eqb z 0)) (alone k (omega arith) e) in
            let there : seen (suc k) (p - 1) ≡ true = ap (λ z. not (eqb (scan_at mem w (suc k) c z) 0)) at ∙ ap (λ z. not (eqb z 0)) (cond-true (has_key mem w (suc k) c p) (suc k) (scan_at mem w k c p) (key_there mem w (suc k) c p e refl))
            ∙ ap not (ne_eqb (suc k) 0 (λ z. omega arith)) in
            let one : cond {A = ℕ} (eqb (closing_at mem w (k + 1)) c) 1 0 ≡ 1 = cond-true {A = ℕ} (eqb (closing_at mem w (k + 1)) c) 1 0 (eq-eqb _ c (up ∙ e)) in
            omega (arith, tally_put (seen k) (seen (suc k)) (b - 1) (p - 1) (omega (arith, i.2, i.3)) (λ q _ d. off q (λ _ z. d (omega arith))) gone there, rest, one))
        | inr d ↦ (let one : cond {A = ℕ} (eqb (closing_at mem w (k + 1)) c) 1 0 ≡ 0 = cond-false {A = ℕ} (eqb (closing_at mem w (k + 1)) c) 1 0 (ne_eqb _ c (λ z. d (sym up ∙ z))) in
            omega (arith, tally_same (seen k) (seen (suc k)) (b - 1) (λ q _. off q (λ z _. d z)), rest, one))
      ]

  pub held_count : Laid mem w n → (f ≤ c) × (c ≤ l) → held (chained_of mem w n f l b room) c ≡ count_of mem w n c
  held_count laid i =
      tally_same (seen n) (λ q. is_some (chained_find mem w n f l b c (q + 1))) (b - 1)
      (λ q h. isSome_chained_find mem w n f l b c (q + 1) (i.0, i.1, omega arith, omega arith) ∙ ap (λ z. not (eqb z 0)) (laid.scans c (q + 1) some))
      ∙ scan_count n (omega arith)

-- what is found after closing c is forgotten
module _ (mem mem' : List ℕ) (w n f l b room c : ℕ) (k : Linked mem w n f l b room) (starts : 1 ≤ f) (some : 1 ≤ c) (laid : Laid mem' w n) (g : Forgot mem mem' w n n false c) where
  stays : (y : ℕ) → 1 ≤ y → y ≤ n → (closing_at mem w y ≡ c → ⊥) → closing_at mem' w y ≡ closing_at mem w y
  stays y a h d = g.done y a h ∙ cond-false (eqb (closing_at mem w y) c) 0 (closing_at mem w y) (ne_eqb _ c d)

  goes : (y : ℕ) → 1 ≤ y → y ≤ n → closing_at mem w y ≡ c → closing_at mem' w y ≡ 0
  goes y a h e = g.done y a h ∙ cond-true (eqb (closing_at mem w y) c) 0 (closing_at mem w y) (eq-eqb _ c e)

  none : (q : ℕ) → scan_at mem' w n c q ≡ 0
  none q = no_scan mem' w n c q (λ y a h. no_key mem' w y c q (λ e _. elim (cases_eq (closing_at mem w y) c) [
    | inl s ↦ omega (arith, goes y a h s, e)
    | inr d ↦ d (sym (stays y a h d) ∙ e)
  ]))

  others : (d q : ℕ) → 1 ≤ d → (d ≡ c → ⊥) → scan_at mem' w n d q ≡ scan_at mem w n d q
  others d q a ne = scan_same mem mem' w n d q (λ y u h. elim (cases_eq (closing_at mem w y) c) [
    | inl s ↦ no_key mem' w y d q (λ e _. omega (arith, goes y u h s, e)) ∙ sym (no_key mem w y d q (λ e _. ne (sym e ∙ s)))
    | inr z ↦ ap (λ v. eqb v d && eqb (place_at mem' w y) q) (stays y u h z) ∙ ap (λ v. eqb (closing_at mem w y) d && eqb v q) (g.place y u h)
  ])

  pub clear_count : count_of mem' w n 0 ≡ count_of mem w n 0 + count_of mem w n c
  clear_count = tally_two (λ i. eqb (closing_at mem w (i + 1)) 0) (λ i. eqb (closing_at mem w (i + 1)) c) (λ i. eqb (closing_at mem' w (i + 1)) 0) n (λ i h.
      let y : ℕ = i + 1 in
      elim (cases_eq (closing_at mem w y) c) [
        | inl s ↦ omega (arith, cond-true {A = ℕ} (eqb (closing_at mem' w y) 0) 1 0 (eq-eqb _ 0 (goes y (omega arith) (omega arith) s)), cond-true {A = ℕ} (eqb (closing_at mem w y) c) 1 0 (eq-eqb _ c s), cond-false {A = ℕ} (eqb (closing_at mem w y) 0) 1 0 (ne_eqb (closing_at mem w y) 0 (λ e. omega arith)))
        | inr d ↦ omega (arith, ap (λ z. cond {A = ℕ} (eqb z 0) 1 0) (stays y (omega arith) (omega arith) d), cond-false {A = ℕ} (eqb (closing_at mem w y) c) 1 0 (ne_eqb (closing_at mem w y) c d))
      ])

  pub clear_few : room + count_of mem w n c ≤ n
  clear_few = omega (arith, clear_count, k.keys.free, tally_le (λ i. eqb (closing_at mem' w (i + 1)) 0) n)

  pub clear_linked : Linked mem' w n f l b (room + count_of mem w n c)
  clear_linked = record {
    laid = laid;
    keys = record {
      once = λ y a h live.
          let other : closing_at mem w y ≡ c → ⊥ = λ e. live (goes y a h e) in
          let s = stays y a h other in
          let alive : closing_at mem w y ≡ 0 → ⊥ = λ e. live (s ∙ e) in
          ap (λ z. scan_at mem' w n z (place_at mem' w y)) s ∙ ap (scan_at mem' w n (closing_at mem w y)) (g.place y a h) ∙ others (closing_at mem w y) (place_at mem w y) (omega (arith, alive)) other ∙ k.keys.once y a h alive;
      inside = λ y a h live.
          let other : closing_at mem w y ≡ c → ⊥ = λ e. live (goes y a h e) in
          let s = stays y a h other in
          ap (λ z. holds_key f l b z (place_at mem' w y)) s ∙ ap (holds_key f l b (closing_at mem w y)) (g.place y a h) ∙ k.keys.inside y a h (λ e. live (s ∙ e));
      free = omega (arith, clear_count, k.keys.free);
    };
  }

  pub cleared : (f ≤ c) × (c ≤ l) → Cleared (chained_of mem w n f l b room) (chained_of mem' w n f l b (room + count_of mem w n c)) c
  cleared i = record {
    limits = record { width = refl; first = refl; last = refl; bound = refl };
    here = λ q. elim (cases_Bool (holds_key f l b c q)) [
      | inl t ↦ cond-true (holds_key f l b c q) (record_at mem' w (seek_in mem' w n c q)) None t ∙ ap (record_at mem' w) (laid.scans c q some ∙ none q)
      | inr t ↦ cond-false (holds_key f l b c q) (record_at mem' w (seek_in mem' w n c q)) None t
    ];
    others = λ d q ne. elim (cases_Bool (holds_key f l b d q)) [
      | inl t ↦ (let dlow : 1 ≤ d = omega (arith, (key_out f l b d q t).0) in
          let y : ℕ = scan_at mem w n d q in
          let same : record_at mem' w y ≡ record_at mem w y = same_record mem mem' w y (λ z. g.bytes y (omega (arith, z)) (scan_has mem w n d q z).1) in
          ap (λ o. cond (holds_key f l b d q) o None) (ap (record_at mem' w) (laid.scans d q dlow ∙ others d q dlow ne) ∙ same ∙ ap (record_at mem w) (sym (k.laid.scans d q dlow))))
      | inr t ↦ cond-false (holds_key f l b d q) _ None t ∙ sym (cond-false (holds_key f l b d q) _ None t)
    ];
    room = ap (λ z. room + z) (sym (held_count mem w n f l b room c k.keys some k.laid i));
  }

-- a store from which every closing is forgotten
module _ (mem mem' : List ℕ) (w n f l b c : ℕ) (starts : 1 ≤ f) (laid : Laid mem' w n) (g : Forgot mem mem' w n n true c) where
  pub new_linked : Linked mem' w n f l b n
  new_linked = record {
    laid = laid;
    keys = record {
      once = λ y a h live. absurd (live (g.done y a h));
      inside = λ y a h live. absurd (live (g.done y a h));
      free = tally_all (λ i. eqb (closing_at mem' w (i + 1)) 0) n (λ i h. eq-eqb _ 0 (g.done (i + 1) (omega arith) (omega arith)));
    };
  }

  pub new_none : (d q : ℕ) → chained_find mem' w n f l b d q ≡ None
  new_none d q = elim (cases_Bool (holds_key f l b d q)) [
    | inl t ↦ (let dlow : 1 ≤ d = omega (arith, (key_out f l b d q t).0) in
        cond-true (holds_key f l b d q) (record_at mem' w (seek_in mem' w n d q)) None t
        ∙ ap (record_at mem' w) (laid.scans d q dlow ∙ no_scan mem' w n d q (λ y a h. no_key mem' w y d q (λ e _. omega (arith, g.done y a h, e)))))
    | inr t ↦ cond-false (holds_key f l b d q) (record_at mem' w (seek_in mem' w n d q)) None t
  ]
