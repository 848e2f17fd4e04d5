-- What is counted of a store as records come and go, and which keys a store has that suits a tree.
use Rattle.std.proofs.Common.{◌≡◌, ℕ, ◌+◌, ◌^◌, ◌<◌, ◌≤◌, true, cond, ◌&&◌, eqb, leb, List, is_some, None, sym, refl, ap, ◌∙◌, inl, inr, arith}
use Rattle.std.proofs.lemmas.Bool.{cases_eq, cond-true, cond-false, and_parts, eqb-true, eq-eqb, ne_eqb, leb-true}
use Rattle.store.specs.Meaning.{Meaning, in_span, inside}
use Rattle.store.specs.Counts.{held}
use Rattle.store.specs.Calls.{SameLimits, Put, Cleared}
use Rattle.store.proofs.Inside.{span_out, key_in}
use Rattle.store.proofs.Rooms.{put_room, put_held, cleared_none, cleared_held}
use Rattle.client.specs.Suits.{suits}
use Rattle.client.proofs.Fills.{limits_join}
use Rattle.closing.specs.Closings.{Counts, counts, cleared, taken}
use Rattle.closing.specs.Holdings.{Counted}

pub same_limits : (m : Meaning) → SameLimits m m
same_limits m = record { width = refl; first = refl; last = refl; bound = refl }

-- a store suits what it suited at the start
pub suits_same : (start m : Meaning) (width n depth : ℕ) → SameLimits start m → suits m width n depth ≡ suits start width n depth
suits_same start m width n depth l = cc

module _ (m : Meaning) (width n depth : ℕ) (fits : suits m width n depth ≡ true) where
  parts : (eqb m.width width ≡ true) × ((in_span m n && leb (2 ^ (depth + 1)) m.bound) ≡ true)
  parts = and_parts (eqb m.width width) (in_span m n && leb (2 ^ (depth + 1)) m.bound) fits

  pub suits_width : m.width ≡ width
  suits_width = eqb-true m.width width parts.0

  pub suits_span : in_span m n ≡ true
  suits_span = (and_parts (in_span m n) (leb (2 ^ (depth + 1)) m.bound) parts.1).0

  pub suits_bound : 2 ^ (depth + 1) ≤ m.bound
  suits_bound = leb-true (2 ^ (depth + 1)) m.bound (and_parts (in_span m n) (leb (2 ^ (depth + 1)) m.bound) parts.1).1

  pub suits_inside : (p : ℕ) → 1 ≤ p → p < 2 ^ (depth + 1) → inside m n p ≡ true
  suits_inside p low high =
      let span = span_out m.first m.last n suits_span in
      key_in m.first m.last m.bound n p span.0 span.1 low (omega (arith, suits_bound))

pub counted_new : (m : Meaning) → Counted m (counts m)
counted_new m = record { limits = same_limits m; room_is = refl; held_is = λ c. refl }

-- at one number, and at every other
at_number : (f here others : ℕ → ℕ) (n : ℕ) → f n ≡ here n → ((d : ℕ) → (d ≡ n → ⊥) → f d ≡ others d) → (d : ℕ) → f d ≡ cond (eqb d n) (here d) (others d)
at_number f here others n e o d = elim (cases_eq d n) [
  | inl q ↦ ap f q ∙ e ∙ ap here (sym q) ∙ sym (cond-true (eqb d n) (here d) (others d) (eq-eqb d n q))
  | inr apart ↦ o d apart ∙ sym (cond-false (eqb d n) (here d) (others d) (ne_eqb d n apart))
]

pub taken_at : (f held_of : ℕ → ℕ) (n more : ℕ) → f n ≡ held_of n + more → ((d : ℕ) → (d ≡ n → ⊥) → f d ≡ held_of d) → (d : ℕ) → f d ≡ cond (eqb d n) (held_of d + more) (held_of d)
taken_at f held_of n more e o = at_number f (λ d. held_of d + more) held_of n e o

pub counted_cleared : {m m' : Meaning} {n : Counts} {c : ℕ} → Counted m n → Cleared m m' c → Counted m' (cleared n c)
counted_cleared {m} {m'} {n} {c} was w = record {
  limits = limits_join n.start m m' was.limits w.limits;
  room_is = omega (arith, w.room, was.room_is, was.held_is c);
  held_is = at_number (held m') (λ _. 0) n.held_of c (cleared_none m m' c w) (λ d apart. cleared_held m m' c w d apart ∙ was.held_is d);
}

-- one more record
pub counted_put : {m m' : Meaning} {n : Counts} {c p : ℕ} {r : List ℕ} → Counted m n → inside m c p ≡ true → m.find c p ≡ None → Put m m' c p r → Counted m' (taken n c 1)
counted_put {m} {m'} {n} {c} {p} {r} was t absent w =
    let one : cond {A = ℕ} (is_some (m.find c p)) 0 1 ≡ 1 = cond-false {A = ℕ} (is_some (m.find c p)) 0 1 (ap is_some absent) in
    record {
      limits = limits_join n.start m m' was.limits w.limits;
      room_is = omega (arith, w.room, one, was.room_is);
      held_is = taken_at (held m') n.held_of c 1 (omega (arith, put_room m m' c p r t w, w.room, one, was.held_is c)) (λ d apart. put_held m m' c p r t w d apart ∙ was.held_is d);
    }
