-- Room and held: what each call makes of them, and where no put is refused.
use Rattle.std.proofs.Common.{◌≡◌, ℕ, ◌+◌, ◌-◌, ◌*◌, ◌<◌, ◌≤◌, Bool, true, false, not, ◌≢◌, List, is_some, Some, None, Option, sym, refl, ap, ◌∙◌, inl, inr, arith}
use Rattle.std.proofs.lemmas.Bool.{cases_eq, cases_Bool, cond-true, cond-false}
use Rattle.store.specs.Meaning.{Meaning, in_span, inside}
use Rattle.store.specs.Counts.{tally, held, held_all, missing, sum_to}
use Rattle.store.specs.Calls.{Put, Cleared, SameLimits, put_refusal}
use Rattle.store.proofs.Inside.{key_out, span_out}
use Rattle.store.proofs.Refusals.{put_open}
use Rattle.store.proofs.Tallies.{tally_le, tally_same, tally_miss, tally_some, tally_put, tally_none, tally_not, sum_to_change, sum_to_lt, le_sum_to, sum_to_none}

pub is_none : (o : Option (List ℕ)) → is_some o ≡ false → o ≡ None
is_none None e = refl
is_none (Some r) e = let z : ◌≡◌ {A = ℕ} 0 1 = cc in absurd (let q : ⊥ = omega arith in q)

pub held_le : (m : Meaning) (c : ℕ) → held m c ≤ m.bound - 1
held_le m c = tally_le (λ k. is_some (m.find c (k + 1))) (m.bound - 1)

-- a closing whose keys stay has what it had
pub held_same : (m n : Meaning) (c : ℕ) → n.bound ≡ m.bound → ((p : ℕ) → n.find c p ≡ m.find c p) → held n c ≡ held m c
held_same m n c b h =
    let f : ℕ → Bool = λ k. is_some (m.find c (k + 1)) in
    let g : ℕ → Bool = λ k. is_some (n.find c (k + 1)) in
    ap (λ k. tally g (k - 1)) b ∙ tally_same f g (m.bound - 1) (λ k _. ap is_some (h (k + 1)))

module _ (m n : Meaning) (c p : ℕ) (r : List ℕ) (t : inside m c p ≡ true) (w : Put m n c p r) where
  abbrev before : ℕ → Bool
  before k = is_some (m.find c (k + 1))

  abbrev after : ℕ → Bool
  after k = is_some (n.find c (k + 1))

  i : (m.first ≤ c) × (c ≤ m.last) × (1 ≤ p) × (p < m.bound)
  i = key_out m.first m.last m.bound c p t

  at : p - 1 + 1 ≡ p
  at = omega (arith, i)

  same : (j : ℕ) → j ≢ p - 1 → after j ≡ before j
  same j d = ap is_some (w.others c (j + 1) (λ _ e. d (omega arith)))

  there : after (p - 1) ≡ true
  there = ap (λ q. is_some (n.find c q)) at ∙ ap is_some w.here

  was : before (p - 1) ≡ is_some (m.find c p)
  was = ap (λ q. is_some (m.find c q)) at

  all : is_some (m.find c p) ≡ true → (j : ℕ) → after j ≡ before j
  all e j = elim (cases_eq j (p - 1)) [ inl s ↦ ap after s ∙ there ∙ sym e ∙ sym was ∙ ap before (sym s) | inr d ↦ same j d ]

  -- what room and a closing's held number come to stays as a record is put there
  pub put_room : n.room + held n c ≡ m.room + held m c
  put_room =
      let counted : tally after (n.bound - 1) ≡ tally after (m.bound - 1) = ap (λ k. tally after (k - 1)) w.limits.bound in
      elim (cases_Bool (is_some (m.find c p))) [
        | inl e ↦ omega (arith, w.room, cond-true {A = ℕ} (is_some (m.find c p)) 0 1 e, tally_same before after (m.bound - 1) (λ j _. all e j), counted)
        | inr e ↦ omega (arith, w.room, cond-false {A = ℕ} (is_some (m.find c p)) 0 1 e, tally_put before after (m.bound - 1) (p - 1) (omega (arith, i)) (λ j _ d. same j d) (was ∙ e) there, counted)
      ]

  -- another closing has what it had
  pub put_held : (d : ℕ) → (d ≡ c → ⊥) → held n d ≡ held m d
  put_held d ne = held_same m n d w.limits.bound (λ q. w.others d q (λ e _. ne e))

  -- what is missing below a number falls as the room does
  pub put_missing : (k : ℕ) → p ≤ k → n.room + missing m c k ≡ m.room + missing n c k
  put_missing k h =
      let m1 = tally_not before k in
      let n1 = tally_not after k in
      elim (cases_Bool (is_some (m.find c p))) [
        | inl e ↦ omega (arith, w.room, cond-true {A = ℕ} (is_some (m.find c p)) 0 1 e, tally_same before after k (λ j _. all e j), m1, n1)
        | inr e ↦ omega (arith, w.room, cond-false {A = ℕ} (is_some (m.find c p)) 0 1 e, tally_put before after k (p - 1) (omega (arith, i)) (λ j _ d. same j d) (was ∙ e) there, m1, n1)
      ]

-- an absent key of a closing with room for all of it
pub has_room : (m : Meaning) (c p : ℕ) → inside m c p ≡ true → m.bound - 1 ≤ m.room + held m c → m.find c p ≡ None → 1 ≤ m.room
has_room m c p t h e =
    let f : ℕ → Bool = λ k. is_some (m.find c (k + 1)) in
    let i = key_out m.first m.last m.bound c p t in
    let at : p - 1 + 1 ≡ p = omega (arith, i) in
    let gone : f (p - 1) ≡ false = ap (λ q. is_some (m.find c q)) at ∙ ap is_some e in
    omega (arith, tally_miss f (m.bound - 1) (p - 1) (omega (arith, i)) gone)

-- an absent key among 1 to k, where the room is enough for what is missing there
pub room_for : (m : Meaning) (c p k : ℕ) → 1 ≤ p → p ≤ k → missing m c k ≤ m.room → m.find c p ≡ None → 1 ≤ m.room
room_for m c p k a b h e =
    let f : ℕ → Bool = λ j. not (is_some (m.find c (j + 1))) in
    let at : p - 1 + 1 ≡ p = omega arith in
    let gone : f (p - 1) ≡ true = ap (λ q. not (is_some (m.find c q))) at ∙ ap (λ o. not (is_some o)) e in
    omega (arith, tally_some f k (p - 1) (omega arith) gone)

-- No put at a place of 1 to k is refused, where the room is enough for what is missing there; `put_missing` keeps that so.
pub put_fits : (m : Meaning) (c p k n : ℕ) → inside m c p ≡ true → p ≤ k → n ≡ m.width → missing m c k ≤ m.room → put_refusal m c p n ≡ None
put_fits m c p k n t b w h = put_open m c p n t w (λ e. room_for m c p k (key_out m.first m.last m.bound c p t).2 b h e)

-- what is missing in a closing that holds nothing
pub missing_le : (m : Meaning) (c k : ℕ) → missing m c k ≤ k
missing_le m c k = tally_le (λ j. not (is_some (m.find c (j + 1)))) k

-- where one closing alone changes, what is written in all changes as it does
held_all_change : (m n : Meaning) (c : ℕ) → in_span m c ≡ true → SameLimits m n → ((k : ℕ) → (k ≡ c → ⊥) → held n k ≡ held m k) → held_all n + held m c ≡ held_all m + held n c
held_all_change m n c t s o =
    let i = span_out m.first m.last c t in
    let f : ℕ → ℕ = λ k. held m (m.first + k) in
    let g : ℕ → ℕ = λ k. held n (m.first + k) in
    let at : m.first + (c - m.first) ≡ c = omega (arith, i) in
    let moved : held_all n ≡ sum_to g (m.last + 1 - m.first) = ap (λ a. sum_to (λ k. held n (a + k)) (n.last + 1 - a)) s.first ∙ ap (λ b. sum_to g (b + 1 - m.first)) s.last in
    let ch = sum_to_change f g (m.last + 1 - m.first) (c - m.first) (omega (arith, i)) (λ j d. o (m.first + j) (λ e. d (omega arith))) in
    omega (arith, moved, ch, ap (held m) at, ap (held n) at)

-- room and all that is held come to the same after a put
pub put_all : (m n : Meaning) (c p : ℕ) (r : List ℕ) → inside m c p ≡ true → in_span m c ≡ true → Put m n c p r → n.room + held_all n ≡ m.room + held_all m
put_all m n c p r t s w = omega (arith, held_all_change m n c s w.limits (put_held m n c p r t w), put_room m n c p r t w)

pub cleared_none : (m n : Meaning) (c : ℕ) → Cleared m n c → held n c ≡ 0
cleared_none m n c w = tally_none (λ k. is_some (n.find c (k + 1))) (n.bound - 1) (λ k _. ap is_some (w.here (k + 1)))

pub cleared_held : (m n : Meaning) (c : ℕ) → Cleared m n c → (d : ℕ) → (d ≡ c → ⊥) → held n d ≡ held m d
cleared_held m n c w d ne = held_same m n d w.limits.bound (λ q. w.others d q ne)

-- and after a closing is cleared
pub cleared_all : (m n : Meaning) (c : ℕ) → in_span m c ≡ true → Cleared m n c → n.room + held_all n ≡ m.room + held_all m
cleared_all m n c s w = omega (arith, held_all_change m n c s w.limits (cleared_held m n c w), cleared_none m n c w, w.room)

pub held_le_all : (m : Meaning) (c : ℕ) → in_span m c ≡ true → held m c ≤ held_all m
held_le_all m c t =
    let i = span_out m.first m.last c t in
    let at : m.first + (c - m.first) ≡ c = omega (arith, i) in
    omega (arith, le_sum_to (λ k. held m (m.first + k)) (m.last + 1 - m.first) (c - m.first) (omega (arith, i)), ap (held m) at)

-- where nothing is found nothing is held
pub none_held : (m : Meaning) → ((c p : ℕ) → m.find c p ≡ None) → held_all m ≡ 0
none_held m h = sum_to_none (λ k. held m (m.first + k)) (m.last + 1 - m.first) (λ k. tally_none (λ q. is_some (m.find (m.first + k) (q + 1))) (m.bound - 1) (λ q _. ap is_some (h (m.first + k) (q + 1))))

-- where a key inside is absent, not all are written
pub not_all : (m : Meaning) (c p : ℕ) → inside m c p ≡ true → m.find c p ≡ None → held_all m < (m.last + 1 - m.first) * (m.bound - 1)
not_all m c p t e =
    let i = key_out m.first m.last m.bound c p t in
    let f : ℕ → Bool = λ k. is_some (m.find c (k + 1)) in
    let at : p - 1 + 1 ≡ p = omega (arith, i) in
    let ac : m.first + (c - m.first) ≡ c = omega (arith, i) in
    let gone : f (p - 1) ≡ false = ap (λ q. is_some (m.find c q)) at ∙ ap is_some e in
    let less : held m c < m.bound - 1 = tally_miss f (m.bound - 1) (p - 1) (omega (arith, i)) gone in
    sum_to_lt (λ k. held m (m.first + k)) (m.last + 1 - m.first) (m.bound - 1) (c - m.first) (λ k. held_le m (m.first + k)) (omega (arith, i)) (omega (arith, less, ap (held m) ac))
