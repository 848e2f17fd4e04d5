-- Walks along chains, scans over records, and what another record's change leaves.
use Rattle.std.proofs.Common.{◌≡◌, ℕ, zero, suc, ◌<◌, ◌≤◌, true, false, cond, ◌&&◌, eqb, List, [], ◌∷◌, length, sym, refl, ap, ◌∙◌, inl, inr, arith}
use Rattle.std.proofs.lemmas.Bool.{cases_eq, cases_Bool, cond-true, cond-false, eq-eqb, ne_eqb, eqb-true, and_parts, and_from}
use Rattle.chained_theory.specs.Layout.{next_at, closing_at, place_at, has_key, seek_from, scan_at}
use Rattle.chained_theory.specs.Links.{Links, seek_list, Fresh, Dead, Live, SameRecord}

-- the walk finds what the chain's list has
pub walk_seeks : (mem : List ℕ) (w n fuel i : ℕ) (xs : List ℕ) (c p : ℕ) → Links mem w n i xs → length xs ≤ fuel → seek_from mem w fuel i c p ≡ seek_list mem w xs c p
walk_seeks mem w n zero i [] c p l h = refl
walk_seeks mem w n (suc fuel) i [] c p l h = cond-true (eqb i 0) 0 _ (eq-eqb i 0 l)
walk_seeks mem w n zero i (x ∷ xs) c p l h = let z : ⊥ = omega arith in absurd z
walk_seeks mem w n (suc fuel) i (x ∷ xs) c p l h =
    let ne : x ≡ 0 → ⊥ = λ e. omega (arith, l.1) in
    ap (λ z. seek_from mem w (suc fuel) z c p) l.0
    ∙ cond-false (eqb x 0) 0 (cond (has_key mem w x c p) x (seek_from mem w fuel (next_at mem w x) c p)) (ne_eqb x 0 ne)
    ∙ ap (cond (has_key mem w x c p) x) (walk_seeks mem w n fuel (next_at mem w x) xs c p l.3 (omega arith))

pub start_le : (mem : List ℕ) (w n i : ℕ) (xs : List ℕ) → Links mem w n i xs → i ≤ n
start_le mem w n i [] l = omega arith
start_le mem w n i (x ∷ xs) l = omega (arith, l.0, l.2)

pub low_fresh : (mem : List ℕ) (w n x i : ℕ) (xs : List ℕ) → n < x → Links mem w n i xs → Fresh x xs
low_fresh mem w n x i [] h l = tt
low_fresh mem w n x i (y ∷ ys) h l = ((λ e. omega (arith, l.2)), low_fresh mem w n x (next_at mem w y) ys h l.3)

pub live_fresh : (mem : List ℕ) (w x : ℕ) (xs : List ℕ) → closing_at mem w x ≡ 0 → Live mem w xs → Fresh x xs
live_fresh mem w x [] z l = tt
live_fresh mem w x (y ∷ ys) z l = ((λ e. l.0 (ap (closing_at mem w) e ∙ z)), live_fresh mem w x ys z l.1)

module _ (mem mem' : List ℕ) (w n n' x : ℕ) (more : n ≤ n') (same : (y : ℕ) → 1 ≤ y → y ≤ n → (y ≡ x → ⊥) → SameRecord mem mem' w y) where
  pub links_stay : (i : ℕ) (xs : List ℕ) → Fresh x xs → Links mem w n i xs → Links mem' w n' i xs
  links_stay i [] f l = l
  links_stay i (y ∷ ys) f l =
      let rest : Links mem w n (next_at mem' w y) ys = rw (same y l.1 l.2 f.0).next l.3 in
      (l.0, l.1, omega (arith, l.2), links_stay (next_at mem' w y) ys f.1 rest)

  pub key_stays : (y c p : ℕ) → 1 ≤ y → y ≤ n → (y ≡ x → ⊥) → has_key mem' w y c p ≡ has_key mem w y c p
  key_stays y c p a b d =
      ap (λ k. eqb k c && eqb (place_at mem' w y) p) (same y a b d).closing ∙ ap (λ k. eqb (closing_at mem w y) c && eqb k p) (same y a b d).place

  pub seek_stays : (i : ℕ) (xs : List ℕ) (c p : ℕ) → Fresh x xs → Links mem w n i xs → seek_list mem' w xs c p ≡ seek_list mem w xs c p
  seek_stays i [] c p f l = refl
  seek_stays i (y ∷ ys) c p f l =
      ap (λ t. cond t y (seek_list mem' w ys c p)) (key_stays y c p l.1 l.2 f.0)
      ∙ ap (cond (has_key mem w y c p) y) (seek_stays (next_at mem w y) ys c p f.1 l.3)

  pub dead_stay : (i : ℕ) (xs : List ℕ) → Fresh x xs → Links mem w n i xs → Dead mem w xs → Dead mem' w xs
  dead_stay i [] f l d = tt
  dead_stay i (y ∷ ys) f l d = ((same y l.1 l.2 f.0).closing ∙ d.0, dead_stay (next_at mem w y) ys f.1 l.3 d.1)

  pub live_stay : (i : ℕ) (xs : List ℕ) → Fresh x xs → Links mem w n i xs → Live mem w xs → Live mem' w xs
  live_stay i [] f l d = tt
  live_stay i (y ∷ ys) f l d = ((λ e. d.0 (sym (same y l.1 l.2 f.0).closing ∙ e)), live_stay (next_at mem w y) ys f.1 l.3 d.1)

pub scan_same : (mem mem' : List ℕ) (w n c p : ℕ) → ((y : ℕ) → 1 ≤ y → y ≤ n → has_key mem' w y c p ≡ has_key mem w y c p) → scan_at mem' w n c p ≡ scan_at mem w n c p
scan_same mem mem' w zero c p h = refl
scan_same mem mem' w (suc n) c p h =
    ap (λ t. cond t (suc n) (scan_at mem' w n c p)) (h (suc n) (omega arith) (omega arith))
    ∙ ap (cond (has_key mem w (suc n) c p) (suc n)) (scan_same mem mem' w n c p (λ y a b. h y a (omega arith)))

-- where the scan finds none, no record has the key
pub scan_none : (mem : List ℕ) (w n c p : ℕ) → scan_at mem w n c p ≡ 0 → (y : ℕ) → 1 ≤ y → y ≤ n → has_key mem w y c p ≡ false
scan_none mem w zero c p e y a b = let z : ⊥ = omega arith in absurd z
scan_none mem w (suc n) c p e y a b =
    elim (cases_Bool (has_key mem w (suc n) c p)) [
      | inl t ↦ (let z : ⊥ = omega (arith, cond-true {A = ℕ} (has_key mem w (suc n) c p) (suc n) (scan_at mem w n c p) t) in absurd z)
      | inr t ↦ (let rest : scan_at mem w n c p ≡ 0 = sym (cond-false (has_key mem w (suc n) c p) (suc n) (scan_at mem w n c p) t) ∙ e in
          elim (cases_eq y (suc n)) [ inl s ↦ ap (λ k. has_key mem w k c p) s ∙ t | inr d ↦ scan_none mem w n c p rest y a (omega arith) ])
    ]

pub no_scan : (mem : List ℕ) (w n c p : ℕ) → ((y : ℕ) → 1 ≤ y → y ≤ n → has_key mem w y c p ≡ false) → scan_at mem w n c p ≡ 0
no_scan mem w zero c p h = refl
no_scan mem w (suc n) c p h = cond-false (has_key mem w (suc n) c p) (suc n) (scan_at mem w n c p) (h (suc n) (omega arith) (omega arith)) ∙ no_scan mem w n c p (λ y a b. h y a (omega arith))

pub scan_has : (mem : List ℕ) (w n c p : ℕ) → (scan_at mem w n c p ≡ 0 → ⊥) → (has_key mem w (scan_at mem w n c p) c p ≡ true) × (scan_at mem w n c p ≤ n)
scan_has mem w zero c p ne = absurd (ne refl)
scan_has mem w (suc n) c p ne =
    elim (cases_Bool (has_key mem w (suc n) c p)) [
      | inl t ↦ (let here : scan_at mem w (suc n) c p ≡ suc n = cond-true (has_key mem w (suc n) c p) (suc n) _ t in (ap (λ z. has_key mem w z c p) here ∙ t, omega (arith, here)))
      | inr t ↦ (let on : scan_at mem w (suc n) c p ≡ scan_at mem w n c p = cond-false (has_key mem w (suc n) c p) (suc n) _ t in
          let rest = scan_has mem w n c p (λ e. ne (on ∙ e)) in
          (ap (λ z. has_key mem w z c p) on ∙ rest.0, omega (arith, on, rest.1)))
    ]

-- a key that no record had, and one has now
pub scan_new : (mem mem' : List ℕ) (w n c p x : ℕ) → 1 ≤ x → x ≤ n → has_key mem' w x c p ≡ true → scan_at mem w n c p ≡ 0
    → ((y : ℕ) → 1 ≤ y → y ≤ n → (y ≡ x → ⊥) → has_key mem' w y c p ≡ has_key mem w y c p) → scan_at mem' w n c p ≡ x
scan_new mem mem' w zero c p x a b t e s = let z : ⊥ = omega arith in absurd z
scan_new mem mem' w (suc n) c p x a b t e s =
    elim (cases_eq x (suc n)) [
      | inl q ↦ cond-true (has_key mem' w (suc n) c p) (suc n) (scan_at mem' w n c p) (ap (λ k. has_key mem' w k c p) (sym q) ∙ t) ∙ sym q
      | inr d ↦ (let was : has_key mem w (suc n) c p ≡ false = scan_none mem w (suc n) c p e (suc n) (omega arith) (omega arith) in
          let rest : scan_at mem w n c p ≡ 0 = sym (cond-false (has_key mem w (suc n) c p) (suc n) (scan_at mem w n c p) was) ∙ e in
          cond-false (has_key mem' w (suc n) c p) (suc n) (scan_at mem' w n c p) (s (suc n) (omega arith) (omega arith) (λ q. d (sym q)) ∙ was)
          ∙ scan_new mem mem' w n c p x a (omega arith) t rest (λ y u v. s y u (omega arith)))
    ]

pub has_parts : (mem : List ℕ) (w y c p : ℕ) → has_key mem w y c p ≡ true → (closing_at mem w y ≡ c) × (place_at mem w y ≡ p)
has_parts mem w y c p t = let b = and_parts (eqb (closing_at mem w y) c) (eqb (place_at mem w y) p) t in (eqb-true _ c b.0, eqb-true _ p b.1)

pub key_there : (mem : List ℕ) (w y c p : ℕ) → closing_at mem w y ≡ c → place_at mem w y ≡ p → has_key mem w y c p ≡ true
key_there mem w y c p a b = and_from (eqb (closing_at mem w y) c) (eqb (place_at mem w y) p) (eq-eqb _ c a) (eq-eqb _ p b)

pub no_key : (mem : List ℕ) (w y c p : ℕ) → (closing_at mem w y ≡ c → place_at mem w y ≡ p → ⊥) → has_key mem w y c p ≡ false
no_key mem w y c p ne = elim (cases_Bool (has_key mem w y c p)) [ inl t ↦ (let b = has_parts mem w y c p t in absurd (ne b.0 b.1)) | inr t ↦ t ]
