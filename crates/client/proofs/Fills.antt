-- A closing filled place by place.
use Rattle.std.proofs.Common.{◌≡◌, ℕ, ◌+◌, ◌-◌, ◌<◌, ◌≤◌, true, cond, List, is_some, is_ok, Some, None, Ok, Err, Option, Result, sym, refl, ap, ◌∙◌, inl, inr, arith}
use Rattle.std.proofs.lemmas.Bool.{cases_eq, cond-false}
use Rattle.refusal.specs.declared.cases.Refusal.{Refusal}
use Rattle.refusal.specs.Tables.{Answers}
use Rattle.store.specs.Meaning.{Meaning, inside}
use Rattle.store.specs.Calls.{SameLimits, Put, Cleared}
use Rattle.store.proofs.Inside.{key_in}
use Rattle.store.proofs.Rooms.{cleared_none}
use Rattle.store.proofs.Tallies.{tally_none}
use Rattle.client.specs.Fill.{Filled}

pub limits_join : (m k n : Meaning) → SameLimits m k → SameLimits k n → SameLimits m n
limits_join m k n a b = record { width = b.width ∙ a.width; first = b.first ∙ a.first; last = b.last ∙ a.last; bound = b.bound ∙ a.bound }

pub filled_none : (m : Meaning) (c : ℕ) (r : List ℕ) → ((p : ℕ) → m.find c p ≡ None) → Filled m m c 0 r
filled_none m c r absent = record {
  limits = record { width = refl; first = refl; last = refl; bound = refl };
  here = λ p a b. let z : ⊥ = omega arith in absurd z;
  beyond = λ p _. absent p;
  others = λ d p _. refl;
  room = omega (arith, tally_none (λ k. is_some (m.find c (k + 1))) (m.bound - 1) (λ k _. ap is_some (absent (k + 1))));
}

-- place p after those before it
pub filled_more : (m k n : Meaning) (c p : ℕ) (r : List ℕ) → 1 ≤ p → Filled m k c (p - 1) r → Put k n c p r → Filled m n c p r
filled_more m k n c p r low f w =
    let was : k.find c p ≡ None = f.beyond p (λ _ b. omega arith) in
    let one : cond {A = ℕ} (is_some (k.find c p)) 0 1 ≡ 1 = cond-false {A = ℕ} (is_some (k.find c p)) 0 1 (ap is_some was) in
    record {
      limits = limits_join m k n f.limits w.limits;
      here = λ q a b. elim (cases_eq q p) [ inl e ↦ ap (n.find c) e ∙ w.here | inr d ↦ w.others c q (λ _ e. d e) ∙ f.here q a (omega arith) ];
      beyond = λ q o. w.others c q (λ _ e. o (omega arith) (omega arith)) ∙ f.beyond q (λ a b. o a (omega arith));
      others = λ d q ne. w.others d q (λ e _. ne e) ∙ f.others d q ne;
      room = omega (arith, w.room, one, f.room);
    }

-- the place of a turn is inside
pub filled_inside : (m k : Meaning) (c n p : ℕ) (r : List ℕ) → Filled m k c (p - 1) r → (m.first ≤ c) × (c ≤ m.last) → n < m.bound → 1 ≤ p → p ≤ n → inside k c p ≡ true
filled_inside m k c n p r f s below low high =
    key_in k.first k.last k.bound c p (omega (arith, s, f.limits.first)) (omega (arith, s, f.limits.last)) low (omega (arith, below, high, f.limits.bound))

-- a call that its table lets through has not refused
pub not_refused : {X : Type 0} (r : Result X Refusal) (why : Option Refusal) (right : X → Type 0) → Answers r why right → why ≡ None → is_ok r ≡ true
not_refused (Ok x) why right a none = refl
not_refused (Err e) why right a none =
    let f : ◌≡◌ {A = Option Refusal} (Some e) None = sym a ∙ none in
    let z : ◌≡◌ {A = ℕ} 0 1 = cc in
    let q : ⊥ = omega arith in
    absurd q

pub filled_cleared : (m k n : Meaning) (c i : ℕ) (r : List ℕ) → Cleared m k c → Filled k n c i r → Filled m n c i r
filled_cleared m k n c i r w f = record {
  limits = limits_join m k n w.limits f.limits;
  here = f.here;
  beyond = f.beyond;
  others = λ d p ne. f.others d p ne ∙ w.others d p ne;
  room = omega (arith, f.room, cleared_none m k c w, w.room);
}
