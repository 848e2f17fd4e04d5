-- What it says that a call's table of refusals decides, or does not.
use Rattle.std.proofs.Common.{◌≡◌, ℕ, ◌≤◌, Bool, true, false, cond, not, ◌&&◌, eqb, List, is_some, Some, None, Ok, Err, Option, Result, sym, refl, ap, ◌∙◌, arith}
use Rattle.std.proofs.lemmas.Bool.{eq-eqb, ne_eqb, eqb-true, eqb-false, both_ways}
use Rattle.refusal.specs.declared.cases.Refusal.{Refusal}
use Rattle.refusal.specs.declared.cases.Refusal.TheVariants.{KeyOutside, WrongWidth, Full}
use Rattle.store.specs.Meaning.{Meaning, in_span, inside}
use Rattle.store.specs.Calls.{put_refusal, get_refusal, held_refusal, Refused}

some_none : {X : Type 0} (x : X) → ◌≡◌ {A = Option X} (Some x) None → ⊥
some_none x e = let z : ◌≡◌ {A = ℕ} 0 1 = cc in omega arith

-- the tables over plain tests
abbrev two : Bool → Bool → Option Refusal
two a b = cond (not a) (Some KeyOutside) (cond (not b) (Some WrongWidth) None)

abbrev three : Bool → Bool → Bool → Option Refusal
three a b d = cond (not a) (Some KeyOutside) (cond (not b) (Some WrongWidth) (cond d (Some Full) None))

one_out : (a : Bool) → cond (not a) (Some KeyOutside) None ≡ None → a ≡ true
one_out true e = refl
one_out false e = absurd (some_none KeyOutside e)

two_out : (a b : Bool) → two a b ≡ None → (a ≡ true) × (b ≡ true)
two_out true true e = (refl, refl)
two_out true false e = absurd (some_none WrongWidth e)
two_out false b e = absurd (some_none KeyOutside e)

three_out : (a b d : Bool) → three a b d ≡ None → (a ≡ true) × (b ≡ true) × (d ≡ false)
three_out true true false e = (refl, refl, refl)
three_out true true true e = absurd (some_none Full e)
three_out true false d e = absurd (some_none WrongWidth e)
three_out false b d e = absurd (some_none KeyOutside e)

three_in : (a b d : Bool) → a ≡ true → b ≡ true → three a b d ≡ cond d (Some Full) None
three_in true true d x y = refl
three_in true false d x y = absurd (both_ways false refl y)
three_in false b d x y = absurd (both_ways false refl x)

three_two : (a b d : Bool) (e : Refusal) → two a b ≡ Some e → three a b d ≡ Some e
three_two true true d e h = absurd (some_none e (sym h))
three_two true false d e h = h
three_two false b d e h = h

pub held_open : (m : Meaning) (c : ℕ) → held_refusal m c ≡ None → in_span m c ≡ true
held_open m c e = one_out (in_span m c) e

pub get_opened : (m : Meaning) (c p n : ℕ) → get_refusal m c p n ≡ None → (inside m c p ≡ true) × (n ≡ m.width)
get_opened m c p n e = let x = two_out (inside m c p) (eqb n m.width) e in (x.0, eqb-true n m.width x.1)

pub get_open : (m : Meaning) (c p n : ℕ) → inside m c p ≡ true → n ≡ m.width → get_refusal m c p n ≡ None
get_open m c p n t w = cc (eq-eqb n m.width w)

absent_full : (o : Option (List ℕ)) (room : ℕ) → (o ≡ None → 1 ≤ room) → (not (is_some o) && eqb room 0) ≡ false
absent_full None room h = ne_eqb room 0 (λ e. omega (arith, h refl))
absent_full (Some r) room h = refl

-- a record of the width under a key inside, which is written or has room
pub put_open : (m : Meaning) (c p n : ℕ) → inside m c p ≡ true → n ≡ m.width → (m.find c p ≡ None → 1 ≤ m.room) → put_refusal m c p n ≡ None
put_open m c p n t w h =
    three_in (inside m c p) (eqb n m.width) (not (is_some (m.find c p)) && eqb m.room 0) t (eq-eqb n m.width w)
    ∙ ap (λ d. cond d (Some Full) None) (absent_full (m.find c p) m.room h)

pub put_opened : (m : Meaning) (c p n : ℕ) → put_refusal m c p n ≡ None → (inside m c p ≡ true) × (n ≡ m.width) × (m.find c p ≡ None → 1 ≤ m.room)
put_opened m c p n e =
    let x = three_out (inside m c p) (eqb n m.width) (not (is_some (m.find c p)) && eqb m.room 0) e in (
      x.0,
      eqb-true n m.width x.1,
      λ z.
          let f : eqb m.room 0 ≡ false = sym (ap (λ o. not (is_some o) && eqb m.room 0) z) ∙ x.2 in
          omega (arith, eqb-false m.room 0 f),
    )

-- what a get refuses a put refuses
pub put_as_get : (m : Meaning) (c p n : ℕ) (e : Refusal) → get_refusal m c p n ≡ Some e → put_refusal m c p n ≡ Some e
put_as_get m c p n e h = three_two (inside m c p) (eqb n m.width) (not (is_some (m.find c p)) && eqb m.room 0) e h

pub put_full : (m : Meaning) (c p n : ℕ) → get_refusal m c p n ≡ None → m.find c p ≡ None → m.room ≡ 0 → put_refusal m c p n ≡ Some Full
put_full m c p n e z r =
    let x = two_out (inside m c p) (eqb n m.width) e in
    three_in (inside m c p) (eqb n m.width) (not (is_some (m.find c p)) && eqb m.room 0) x.0 x.1
    ∙ ap (λ o. cond (not (is_some o) && eqb m.room 0) (Some Full) None) z
    ∙ ap (λ k. cond (eqb k 0) (Some Full) None) r

-- what holds anyway is left by a refusal
pub leaves : {X : Type 0} (r : Result X Refusal) {P : Type 0} → P → Refused r P
leaves (Ok x) p = tt
leaves (Err e) p = p
