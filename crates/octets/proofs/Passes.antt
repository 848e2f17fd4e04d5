-- What tests on lists say.
use Rattle.std.proofs.Common.{◌≡◌, ℕ, Bool, true, false, ◌&&◌, T, eqb, List, [], ◌∷◌, Decides, sym, refl, subst, arith, eqb→eq}
use lib.Dec.{eqb_refl}
use Rattle.octets.specs.Tests.{same}

pub both_in : (a b : Bool) → T a → T b → T (a && b)
both_in true b p q = q
both_in false b p q = p

pub both_out : (a b : Bool) → T (a && b) → T a × T b
both_out true b p = (tt, p)
both_out false b p = absurd p

pub eqb_in : (m n : ℕ) → m ≡ n → T (eqb m n)
eqb_in m n e = subst (λ (k : ℕ). T (eqb m k)) e (eqb_refl m)

pub same_refl : (s : List ℕ) → T (same s s)
same_refl [] = tt
same_refl (x ∷ s) = both_in (eqb x x) (same s s) (eqb_refl x) (same_refl s)

pub same_out : (s t : List ℕ) → T (same s t) → s ≡ t
same_out [] [] h = refl
same_out [] (y ∷ t) h = absurd h
same_out (x ∷ s) [] h = absurd h
same_out (x ∷ s) (y ∷ t) h =
    let p = both_out (eqb x y) (same s t) h in
    let a = eqb→eq x y p.0 in
    let b = same_out s t p.1 in
    cc

pub true_T : (b : Bool) → T b → b ≡ true
true_T true h = refl
true_T false h = absurd h

pub T_true : (b : Bool) → b ≡ true → T b
T_true b e = subst T (sym e) tt

pub false_T : (b : Bool) → (T b → ⊥) → b ≡ false
false_T true h = absurd (h tt)
false_T false h = refl

-- a test that decides whether two lists are equal is `same`
pub same_decided : (s t : List ℕ) (r : Bool) → Decides r (s ≡ t) → r ≡ same s t
same_decided s t true h = sym (true_T (same s t) (subst (λ z. T (same s z)) (h.0 refl) (same_refl s)))
same_decided s t false h = sym (false_T (same s t) (λ q. let e = h.1 (same_out s t q) in let z : ◌≡◌ {A = ℕ} 0 1 = cc in omega arith))
