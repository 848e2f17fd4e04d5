-- A record put in front of a chain: the chains after it, and what walks find.
use Rattle.std.proofs.Common.{◌≡◌, ℕ, suc, ◌+◌, ◌-◌, ◌<◌, ◌≤◌, Bool, true, cond, ◌&&◌, eqb, List, ◌∷◌, length, sym, refl, ap, ◌∙◌, subst, inl, inr, add-one, arith}
use Rattle.std.proofs.lemmas.Bool.{cases_eq, cases_Bool, cond-true, cond-false, eq-eqb, ne_eqb, both_ways, and_right, and_from}
use Rattle.store.specs.Counts.{sum_to}
use Rattle.store.proofs.Tallies.{sum_to_change, le_sum_to, tally_same, tally_put}
use Rattle.chained_theory.specs.Layout.{next_at, closing_at, place_at, head_at, bucket_of, has_key, seek_in, scan_at, count_of, home_of}
use Rattle.chained_theory.specs.Links.{Links, seek_list, Fresh, Apart, Dead, Live, Laid, SameRecord, Pushed, Fronted}
use Rattle.chained_theory.proofs.Chains.{walk_seeks, low_fresh, live_fresh, links_stay, key_stays, seek_stays, dead_stay, live_stay, scan_same, scan_new, has_parts, key_there, no_key}

abbrev pub fore : ℕ → ℕ → (ℕ → List ℕ) → ℕ → List ℕ
fore x b base j = cond (eqb j b) (x ∷ base j) (base j)

-- In mem the chains from hd have the records base, without x; in mem' x is in front of chain b.
pub record Fore (mem mem' : List ℕ) (w n n' x b : ℕ) (hd : ℕ → ℕ) (base : ℕ → List ℕ) : Type 0 where
  pub more : n ≤ n'
  pub low : 1 ≤ x
  pub high : x ≤ n'
  pub bhigh : b < 17
  pub same : (y : ℕ) → 1 ≤ y → y ≤ n → (y ≡ x → ⊥) → SameRecord mem mem' w y
  pub links : (j : ℕ) → j < 17 → Links mem w n (hd j) (base j)
  pub fresh : (j : ℕ) → j < 17 → Fresh x (base j)
  pub headb : head_at mem' b ≡ x
  pub heads : (j : ℕ) → j < 17 → (j ≡ b → ⊥) → head_at mem' j ≡ hd j
  pub next : next_at mem' w x ≡ hd b
  pub dead : Dead mem w (base 0)
  pub dies : 0 ≡ b → closing_at mem' w x ≡ 0
  pub apart : Apart (base 0)
  pub live : (j : ℕ) → 1 ≤ j → j < 17 → Live mem w (base j)
  pub lives : 1 ≤ b → closing_at mem' w x ≡ 0 → ⊥
  pub whole : sum_to (λ j. length (base j)) 17 + 1 ≡ n'
  pub rooms : length (base 0) + cond (eqb 0 b) 1 0 ≡ count_of mem' w n' 0
  pub scans : (c p : ℕ) → 1 ≤ c → cond (eqb (bucket_of c p) b && has_key mem' w x c p) x (seek_list mem w (base (bucket_of c p)) c p) ≡ scan_at mem' w n' c p

module _ (mem mem' : List ℕ) (w n n' x b : ℕ) (hd : ℕ → ℕ) (base : ℕ → List ℕ) (o : Fore mem mem' w n n' x b hd base) where
  at_b : (j : ℕ) → j ≡ b → fore x b base j ≡ x ∷ base j
  at_b j e = cond-true (eqb j b) _ _ (eq-eqb j b e)

  off_b : (j : ℕ) → (j ≡ b → ⊥) → fore x b base j ≡ base j
  off_b j d = cond-false (eqb j b) _ _ (ne_eqb j b d)

  links' : (j : ℕ) → j < 17 → Links mem' w n' (head_at mem' j) (fore x b base j)
  links' j h =
      let stay : Links mem' w n' (hd j) (base j) = links_stay mem mem' w n n' x o.more o.same (hd j) (base j) (o.fresh j h) (o.links j h) in
      elim (cases_eq j b) [
        | inl e ↦ (let here : Links mem' w n' (head_at mem' j) (x ∷ base j) = (ap (head_at mem') e ∙ o.headb, o.low, o.high, subst (λ i. Links mem' w n' i (base j)) (ap hd e ∙ sym o.next) stay) in
            subst (λ xs. Links mem' w n' (head_at mem' j) xs) (sym (at_b j e)) here)
        | inr d ↦ subst (λ xs. Links mem' w n' (head_at mem' j) xs) (sym (off_b j d)) (subst (λ i. Links mem' w n' i (base j)) (sym (o.heads j h d)) stay)
      ]

  dead' : Dead mem' w (fore x b base 0)
  dead' =
      let stay : Dead mem' w (base 0) = dead_stay mem mem' w n n' x o.more o.same (hd 0) (base 0) (o.fresh 0 (omega arith)) (o.links 0 (omega arith)) o.dead in
      elim (cases_eq 0 b) [
        | inl e ↦ (let here : Dead mem' w (x ∷ base 0) = (o.dies e, stay) in subst (λ xs. Dead mem' w xs) (sym (at_b 0 e)) here)
        | inr d ↦ subst (λ xs. Dead mem' w xs) (sym (off_b 0 d)) stay
      ]

  apart' : Apart (fore x b base 0)
  apart' =
      elim (cases_eq 0 b) [
        | inl e ↦ (let here : Apart (x ∷ base 0) = (o.fresh 0 (omega arith), o.apart) in subst (λ xs. Apart xs) (sym (at_b 0 e)) here)
        | inr d ↦ subst (λ xs. Apart xs) (sym (off_b 0 d)) o.apart
      ]

  live' : (j : ℕ) → 1 ≤ j → j < 17 → Live mem' w (fore x b base j)
  live' j a h =
      let stay : Live mem' w (base j) = live_stay mem mem' w n n' x o.more o.same (hd j) (base j) (o.fresh j h) (o.links j h) (o.live j a h) in
      elim (cases_eq j b) [
        | inl e ↦ (let here : Live mem' w (x ∷ base j) = (o.lives (omega arith), stay) in subst (λ xs. Live mem' w xs) (sym (at_b j e)) here)
        | inr d ↦ subst (λ xs. Live mem' w xs) (sym (off_b j d)) stay
      ]

  whole' : sum_to (λ j. length (fore x b base j)) 17 ≡ n'
  whole' =
      let f : ℕ → ℕ = λ j. length (base j) in
      let g : ℕ → ℕ = λ j. length (fore x b base j) in
      let gb : g b ≡ f b + 1 = ap length (at_b b refl) ∙ omega arith in
      omega (arith, sum_to_change f g 17 b o.bhigh (λ j d. ap length (off_b j d)), o.whole, gb)

  rooms' : length (fore x b base 0) ≡ count_of mem' w n' 0
  rooms' =
      elim (cases_eq 0 b) [
        | inl e ↦ ap length (at_b 0 e) ∙ omega (arith, o.rooms, cond-true {A = ℕ} (eqb 0 b) 1 0 (eq-eqb 0 b e))
        | inr d ↦ ap length (off_b 0 d) ∙ omega (arith, o.rooms, cond-false {A = ℕ} (eqb 0 b) 1 0 (ne_eqb 0 b d))
      ]

  -- what a walk along the bucket of a key finds
  pub fore_seek : (c p : ℕ) → seek_in mem' w n' c p ≡ cond (eqb (bucket_of c p) b && has_key mem' w x c p) x (seek_list mem w (base (bucket_of c p)) c p)
  fore_seek c p =
      let j : ℕ = bucket_of c p in
      let h : bucket_of c p < 17 = omega arith in
      let short : length (fore x b base j) ≤ n' = omega (arith, le_sum_to (λ i. length (fore x b base i)) 17 j h, whole') in
      let stay : seek_list mem' w (base j) c p ≡ seek_list mem w (base j) c p = seek_stays mem mem' w n n' x o.more o.same (hd j) (base j) c p (o.fresh j h) (o.links j h) in
      walk_seeks mem' w n' n' (head_at mem' j) (fore x b base j) c p (links' j h) short
      ∙ elim (cases_eq j b) [
        | inl e ↦ ap (λ xs. seek_list mem' w xs c p) (at_b j e) ∙ ap (cond (has_key mem' w x c p) x) stay ∙ ap (λ t. cond (t && has_key mem' w x c p) x (seek_list mem w (base j) c p)) (sym (eq-eqb j b e))
        | inr d ↦ ap (λ xs. seek_list mem' w xs c p) (off_b j d) ∙ stay ∙ ap (λ t. cond (t && has_key mem' w x c p) x (seek_list mem w (base j) c p)) (sym (ne_eqb j b d))
      ]

  pub fore_laid : Laid mem' w n'
  fore_laid = record { chain = fore x b base; links = links'; dead = dead'; apart = apart'; live = live'; whole = whole'; rooms = rooms'; scans = λ c p a. fore_seek c p ∙ o.scans c p a }

-- what is found in a chain's list is what a scan finds
pub list_scans : (mem : List ℕ) (w n : ℕ) (k : Laid mem w n) (c p : ℕ) → 1 ≤ c → seek_list mem w (k.chain (bucket_of c p)) c p ≡ scan_at mem w n c p
list_scans mem w n k c p a =
    let j : ℕ = bucket_of c p in
    let h : bucket_of c p < 17 = omega arith in
    let short : length (k.chain j) ≤ n = omega (arith, le_sum_to (λ i. length (k.chain i)) 17 j h, k.whole) in
    sym (walk_seeks mem w n n (head_at mem j) (k.chain j) c p (k.links j h) short) ∙ k.scans c p a

pub home_high : (k p : ℕ) → home_of k p < 17
home_high k p = elim (cases_eq k 0) [ inl e ↦ omega (arith, cond-true {A = ℕ} (eqb k 0) 0 (bucket_of k p) (eq-eqb k 0 e)) | inr d ↦ omega (arith, cond-false {A = ℕ} (eqb k 0) 0 (bucket_of k p) (ne_eqb k 0 d)) ]

pub home_dead : (k p : ℕ) → 0 ≡ home_of k p → k ≡ 0
home_dead k p e = elim (cases_eq k 0) [ inl z ↦ z | inr d ↦ (let z : ⊥ = omega (arith, cond-false {A = ℕ} (eqb k 0) 0 (bucket_of k p) (ne_eqb k 0 d)) in absurd z) ]

pub home_live : (k p : ℕ) → 1 ≤ home_of k p → k ≡ 0 → ⊥
home_live k p a e = omega (arith, cond-true {A = ℕ} (eqb k 0) 0 (bucket_of k p) (eq-eqb k 0 e))

pub home_bit : (k p : ℕ) → cond {A = ℕ} (eqb 0 (home_of k p)) 1 0 ≡ cond {A = ℕ} (eqb k 0) 1 0
home_bit k p =
    elim (cases_eq k 0) [
      | inl e ↦ cond-true {A = ℕ} (eqb 0 (home_of k p)) 1 0 (eq-eqb 0 (home_of k p) (sym (cond-true {A = ℕ} (eqb k 0) 0 (bucket_of k p) (eq-eqb k 0 e)))) ∙ sym (cond-true {A = ℕ} (eqb k 0) 1 0 (eq-eqb k 0 e))
      | inr d ↦ cond-false {A = ℕ} (eqb 0 (home_of k p)) 1 0 (ne_eqb 0 (home_of k p) (λ z. d (home_dead k p z))) ∙ sym (cond-false {A = ℕ} (eqb k 0) 1 0 (ne_eqb k 0 d))
    ]

-- one more record, in the chain that its closing and place say
module _ (mem mem' : List ℕ) (w n i k : ℕ) (laid : Laid mem w i) (less : i < n) (u : Fronted mem mem' w n (suc i) (home_of k (place_at mem w (suc i))) k) where
  abbrev b : ℕ
  b = home_of k (place_at mem w (suc i))

  same : (y : ℕ) → 1 ≤ y → y ≤ i → (y ≡ suc i → ⊥) → SameRecord mem mem' w y
  same y a h d = u.others y a (omega arith) d

  pub more_counts : count_of mem' w (suc i) 0 ≡ count_of mem w i 0 + cond (eqb k 0) 1 0
  more_counts =
      let f : ℕ → Bool = λ j. eqb (closing_at mem w (j + 1)) 0 in
      let g : ℕ → Bool = λ j. eqb (closing_at mem' w (j + 1)) 0 in
      let top : closing_at mem' w (i + 1) ≡ k = ap (closing_at mem' w) (add-one i) ∙ u.closing in
      omega (arith, tally_same f g i (λ j h. ap (λ z. eqb z 0) (same (j + 1) (omega arith) (omega arith) (λ e. omega arith)).closing), ap (λ z. cond {A = ℕ} (eqb z 0) 1 0) top)

  scans' : (c p : ℕ) → 1 ≤ c → cond (eqb (bucket_of c p) b && has_key mem' w (suc i) c p) (suc i) (seek_list mem w (laid.chain (bucket_of c p)) c p) ≡ scan_at mem' w (suc i) c p
  scans' c p a =
      let rest : seek_list mem w (laid.chain (bucket_of c p)) c p ≡ scan_at mem' w i c p =
      list_scans mem w i laid c p a ∙ sym (scan_same mem mem' w i c p (λ y q h. key_stays mem mem' w i i (suc i) (omega arith) same y c p q h (λ e. omega arith))) in
      elim (cases_Bool (has_key mem' w (suc i) c p)) [
        | inl t ↦ (let s = has_parts mem' w (suc i) c p t in
            let kc : k ≡ c = sym u.closing ∙ s.0 in
            let pp : place_at mem w (suc i) ≡ p = sym u.place ∙ s.1 in
            let at : bucket_of c p ≡ b = sym (cond-false (eqb k 0) 0 (bucket_of k (place_at mem w (suc i))) (ne_eqb k 0 (λ e. omega arith)) ∙ ap (λ z. bucket_of z (place_at mem w (suc i))) kc ∙ ap (bucket_of c) pp) in
            cond-true (eqb (bucket_of c p) b && has_key mem' w (suc i) c p) (suc i) _ (and_from (eqb (bucket_of c p) b) _ (eq-eqb (bucket_of c p) b at) t) ∙ sym (cond-true (has_key mem' w (suc i) c p) (suc i) (scan_at mem' w i c p) t))
        | inr t ↦ cond-false (eqb (bucket_of c p) b && has_key mem' w (suc i) c p) (suc i) _ (and_right (eqb (bucket_of c p) b) _ t) ∙ rest ∙ sym (cond-false (has_key mem' w (suc i) c p) (suc i) (scan_at mem' w i c p) t)
      ]

  pub more_laid : Laid mem' w (suc i)
  more_laid = fore_laid mem mem' w i (suc i) (suc i) b (head_at mem) laid.chain (record {
    more = omega arith;
    low = omega arith;
    high = omega arith;
    bhigh = home_high k (place_at mem w (suc i));
    same = same;
    links = laid.links;
    fresh = λ j h. low_fresh mem w i (suc i) (head_at mem j) (laid.chain j) (omega arith) (laid.links j h);
    headb = u.headb;
    heads = u.heads;
    next = u.next;
    dead = laid.dead;
    dies = λ e. u.closing ∙ home_dead k (place_at mem w (suc i)) e;
    apart = laid.apart;
    live = laid.live;
    lives = λ a e. home_live k (place_at mem w (suc i)) a (sym u.closing ∙ e);
    whole = omega (arith, laid.whole);
    rooms = omega (arith, laid.rooms, more_counts, home_bit k (place_at mem w (suc i)));
    scans = scans';
  })

-- a record of the free chain, under a key that no record has
module _ (mem mem' : List ℕ) (w n b c p : ℕ) (r : List ℕ) (laid : Laid mem w n) (t : List ℕ) (is : laid.chain 0 ≡ head_at mem 0 ∷ t)
    (low : 1 ≤ b) (high : b < 17) (home : bucket_of c p ≡ b) (some : 1 ≤ c) (absent : scan_at mem w n c p ≡ 0) (u : Pushed mem mem' w n (head_at mem 0) b c p r) where
  abbrev x : ℕ
  x = head_at mem 0

  abbrev hd : ℕ → ℕ
  hd j = cond (eqb j 0) (next_at mem w (head_at mem 0)) (head_at mem j)

  abbrev base : ℕ → List ℕ
  base j = cond (eqb j 0) t (laid.chain j)

  free : Links mem w n x (x ∷ t)
  free = subst (λ xs. Links mem w n x xs) is (laid.links 0 (omega arith))

  dead0 : Dead mem w (x ∷ t)
  dead0 = subst (λ xs. Dead mem w xs) is laid.dead

  apart0 : Apart (x ∷ t)
  apart0 = subst (λ xs. Apart xs) is laid.apart

  off : (j : ℕ) → (j ≡ 0 → ⊥) → (hd j ≡ head_at mem j) × (base j ≡ laid.chain j)
  off j d = (cond-false (eqb j 0) _ _ (ne_eqb j 0 d), cond-false (eqb j 0) _ _ (ne_eqb j 0 d))

  -- links, freshness and life, at the free chain and at a bucket
  links0 : (j : ℕ) → j < 17 → Links mem w n (hd j) (base j)
  links0 j h = elim (cases_eq j 0) [
    | inl e ↦ subst (λ i. Links mem w n (hd i) (base i)) (sym e) free.3
    | inr d ↦ subst (λ i. Links mem w n i (base j)) (sym (off j d).0) (subst (λ xs. Links mem w n (head_at mem j) xs) (sym (off j d).1) (laid.links j h))
  ]

  live0 : (j : ℕ) → 1 ≤ j → j < 17 → Live mem w (base j)
  live0 j a h = subst (λ xs. Live mem w xs) (sym (off j (λ e. omega arith)).1) (laid.live j a h)

  fresh0 : (j : ℕ) → j < 17 → Fresh x (base j)
  fresh0 j h = elim (cases_eq j 0) [
    | inl e ↦ subst (λ i. Fresh x (base i)) (sym e) apart0.0
    | inr d ↦ live_fresh mem w x (base j) dead0.0 (live0 j (omega arith) h)
  ]

  heads0 : (j : ℕ) → j < 17 → (j ≡ b → ⊥) → head_at mem' j ≡ hd j
  heads0 j h d = elim (cases_eq j 0) [
    | inl e ↦ subst (λ i. head_at mem' i ≡ hd i) (sym e) u.head0
    | inr z ↦ u.heads j h z d ∙ sym (off j z).0
  ]

  b0 : b ≡ 0 → ⊥
  b0 e = omega arith

  whole0 : sum_to (λ j. length (base j)) 17 + 1 ≡ n
  whole0 =
      let f : ℕ → ℕ = λ j. length (laid.chain j) in
      let g : ℕ → ℕ = λ j. length (base j) in
      let f0 : f 0 ≡ length t + 1 = ap length is ∙ omega arith in
      omega (arith, sum_to_change f g 17 0 (omega arith) (λ j d. ap length (off j d).1), laid.whole, f0)

  pub fewer : count_of mem w n 0 ≡ count_of mem' w n 0 + 1
  fewer =
      let f : ℕ → Bool = λ j. eqb (closing_at mem w (j + 1)) 0 in
      let g : ℕ → Bool = λ j. eqb (closing_at mem' w (j + 1)) 0 in
      let at : x - 1 + 1 ≡ x = omega (arith, free.1) in
      tally_put g f n (x - 1) (omega (arith, free.1, free.2)) (λ j h d. ap (λ z. eqb z 0) (sym (u.others (j + 1) (omega arith) (omega arith) (λ e. d (omega arith))).closing))
      (ap (λ z. eqb z 0) (ap (closing_at mem' w) at ∙ u.closing) ∙ ne_eqb c 0 (λ (e : c ≡ 0). omega arith)) (eq-eqb _ 0 (ap (closing_at mem w) at ∙ dead0.0))

  has : has_key mem' w x c p ≡ true
  has = key_there mem' w x c p u.closing u.place

  -- what a scan finds after it
  pub push_scan_here : scan_at mem' w n c p ≡ x
  push_scan_here = scan_new mem mem' w n c p x free.1 free.2 has absent (λ y a h d. key_stays mem mem' w n n x (omega arith) u.others y c p a h d)

  pub push_scan_others : (d q : ℕ) → 1 ≤ d → (d ≡ c → q ≡ p → ⊥) → scan_at mem' w n d q ≡ scan_at mem w n d q
  push_scan_others d q a ne = scan_same mem mem' w n d q (λ y v h. elim (cases_eq y x) [
    | inl e ↦ no_key mem' w y d q (λ k l. ne (sym k ∙ ap (closing_at mem' w) e ∙ u.closing) (sym l ∙ ap (place_at mem' w) e ∙ u.place))
        ∙ sym (no_key mem w y d q (λ k l. omega (arith, sym k ∙ ap (closing_at mem w) e ∙ dead0.0)))
    | inr z ↦ key_stays mem mem' w n n x (omega arith) u.others y d q v h z
  ])

  list0 : (d q : ℕ) → 1 ≤ d → seek_list mem w (base (bucket_of d q)) d q ≡ scan_at mem w n d q
  list0 d q a = ap (λ xs. seek_list mem w xs d q) (off (bucket_of d q) (λ e. omega arith)).1 ∙ list_scans mem w n laid d q a

  scans0 : (d q : ℕ) → 1 ≤ d → cond (eqb (bucket_of d q) b && has_key mem' w x d q) x (seek_list mem w (base (bucket_of d q)) d q) ≡ scan_at mem' w n d q
  scans0 d q a =
      elim (cases_Bool (has_key mem' w x d q)) [
        | inl t ↦ (let s = has_parts mem' w x d q t in
            let dc : d ≡ c = sym s.0 ∙ u.closing in
            let qp : q ≡ p = sym s.1 ∙ u.place in
            let at : bucket_of d q ≡ b = ap (λ z. bucket_of z q) dc ∙ ap (bucket_of c) qp ∙ home in
            cond-true (eqb (bucket_of d q) b && has_key mem' w x d q) x _ (and_from (eqb (bucket_of d q) b) _ (eq-eqb (bucket_of d q) b at) t) ∙ sym (ap (λ z. scan_at mem' w n z q) dc ∙ ap (scan_at mem' w n c) qp ∙ push_scan_here))
        | inr t ↦ cond-false (eqb (bucket_of d q) b && has_key mem' w x d q) x _ (and_right (eqb (bucket_of d q) b) _ t) ∙ list0 d q a
            ∙ sym (push_scan_others d q a (λ e g. both_ways _ t (ap (λ z. has_key mem' w x z q) e ∙ ap (has_key mem' w x c) g ∙ has)))
      ]

  pub push_laid : Laid mem' w n
  push_laid = fore_laid mem mem' w n n x b hd base (record {
    more = omega arith;
    low = free.1;
    high = free.2;
    bhigh = high;
    same = u.others;
    links = links0;
    fresh = fresh0;
    headb = u.headb;
    heads = heads0;
    next = u.next ∙ sym (off b b0).0;
    dead = dead0.1;
    dies = λ e. absurd (b0 (sym e));
    apart = apart0.1;
    live = live0;
    lives = λ _ e. omega (arith, sym u.closing ∙ e);
    whole = whole0;
    rooms = omega (arith, ap length is, laid.rooms, fewer, cond-false {A = ℕ} (eqb 0 b) 1 0 (ne_eqb 0 b (λ e. b0 (sym e))));
    scans = scans0;
  })
