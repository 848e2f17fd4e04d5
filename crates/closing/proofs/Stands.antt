-- Which closing stands under a number, as closings come and go.
use Rattle.std.proofs.Common.{◌≡◌, ℕ, ◌+◌, ◌≤◌, Bool, true, false, cond, not, eqb, ◌⊎◌, List, [], ◌∷◌, ◌++◌, length, is_some as option_is_some, Some, None, Option, sym, refl, ap, ◌∙◌, inl, inr, arith, length-append}
use Rattle.std.proofs.lemmas.Bool.{cond-true, cond-false, eqb-true, eq-eqb, ne_eqb}
use Rattle.closing.specs.Closings.{Closing, stands, without}

pub no_some : {X : Type 0} {x : X} {G : Type 0} → ◌≡◌ {A = Option X} None (Some x) → G
no_some e = let z : ◌≡◌ {A = ℕ} 0 1 = cc in absurd (omega arith)

pub same_some : {X : Type 0} {x y : X} → ◌≡◌ {A = Option X} (Some x) (Some y) → x ≡ y
same_some e = cc

pub is_some : {X : Type 0} {o : Option X} {x : X} → o ≡ Some x → option_is_some o ≡ true
is_some e = ap option_is_some e

pub is_none : {X : Type 0} (o : Option X) → option_is_some o ≡ false → o ≡ None
is_none None e = refl
is_none (Some x) e = absurd (let z : ◌≡◌ {A = ℕ} 0 1 = cc in omega arith)

-- the first of a list stands under its number, and another number stands as in the rest
first_of : (n : ℕ) (y c : Closing) (rest : Option Closing) → cond (eqb y.number n) (Some y) rest ≡ Some c → ((y.number ≡ n) × (y ≡ c)) ⊎ (rest ≡ Some c)
first_of n y c rest e = which (eqb y.number n) refl e
  where
    which : (b : Bool) → eqb y.number n ≡ b → cond b (Some y) rest ≡ Some c → ((y.number ≡ n) × (y ≡ c)) ⊎ (rest ≡ Some c)
    which true q e = inl (eqb-true y.number n q, same_some e)
    which false q e = inr e

pub stands_number : (n : ℕ) (st : List Closing) (c : Closing) → stands n st ≡ Some c → c.number ≡ n
stands_number n [] c e = no_some e
stands_number n (y ∷ st) c e = elim (first_of n y c (stands n st) e) [ inl p ↦ sym (ap (λ x. x.number) p.1) ∙ p.0 | inr r ↦ stands_number n st c r ]

-- one more closing
pub stands_more : (n : ℕ) (st : List Closing) (c x : Closing) → stands n st ≡ Some c → stands n (st ++ (x ∷ [])) ≡ Some c
stands_more n [] c x e = no_some e
stands_more n (y ∷ st) c x e = which (eqb y.number n) e (stands_more n st c x)
  where
    which : (b : Bool) → cond b (Some y) (stands n st) ≡ Some c → (stands n st ≡ Some c → stands n (st ++ (x ∷ [])) ≡ Some c) → cond b (Some y) (stands n (st ++ (x ∷ []))) ≡ Some c
    which true e r = e
    which false e r = r e

pub stands_last : (n : ℕ) (st : List Closing) (x : Closing) → stands n st ≡ None → x.number ≡ n → stands n (st ++ (x ∷ [])) ≡ Some x
stands_last n [] x e q = cond-true (eqb x.number n) (Some x) None (eq-eqb x.number n q)
stands_last n (y ∷ st) x e q = which (eqb y.number n) e (λ r. stands_last n st x r q)
  where
    which : (b : Bool) → cond b (Some y) (stands n st) ≡ None → (stands n st ≡ None → stands n (st ++ (x ∷ [])) ≡ Some x) → cond b (Some y) (stands n (st ++ (x ∷ []))) ≡ Some x
    which true e r = no_some (sym e)
    which false e r = r e

-- what stands then is one that stood, or the new one under its own number
pub stands_either : (n : ℕ) (st : List Closing) (x c : Closing) → stands n (st ++ (x ∷ [])) ≡ Some c → (stands n st ≡ Some c) ⊎ ((x.number ≡ n) × (x ≡ c))
stands_either n [] x c e = elim (first_of n x c None e) [ inl p ↦ inr p | inr r ↦ no_some r ]
stands_either n (y ∷ st) x c e = which (eqb y.number n) e (stands_either n st x c)
  where
    which : (b : Bool) → cond b (Some y) (stands n (st ++ (x ∷ []))) ≡ Some c → (stands n (st ++ (x ∷ [])) ≡ Some c → (stands n st ≡ Some c) ⊎ ((x.number ≡ n) × (x ≡ c)))
        → (cond b (Some y) (stands n st) ≡ Some c) ⊎ ((x.number ≡ n) × (x ≡ c))
    which true e r = inl e
    which false e r = r e

pub length_more : (st : List Closing) (x : Closing) → length (st ++ (x ∷ [])) ≡ length st + 1
length_more st x = length-append st (x ∷ [])

-- a closing is withdrawn: no other is touched
pub stands_without : (n m : ℕ) (st : List Closing) → (n ≡ m → ⊥) → stands n (without m st) ≡ stands n st
stands_without n m [] apart = refl
stands_without n m (y ∷ st) apart = which (eqb y.number m) refl (stands_without n m st apart)
  where
    which : (b : Bool) → eqb y.number m ≡ b → stands n (without m st) ≡ stands n st → stands n (cond (not b) (y ∷ without m st) (without m st)) ≡ stands n (y ∷ st)
    which true e r = r ∙ sym (cond-false (eqb y.number n) (Some y) (stands n st) (ne_eqb y.number n (λ q. apart (sym q ∙ eqb-true y.number m e))))
    which false e r = ap (cond (eqb y.number n) (Some y)) r

pub stands_no_more : (n : ℕ) (st : List Closing) → stands n (without n st) ≡ None
stands_no_more n [] = refl
stands_no_more n (y ∷ st) = which (eqb y.number n) refl (stands_no_more n st)
  where
    which : (b : Bool) → eqb y.number n ≡ b → stands n (without n st) ≡ None → stands n (cond (not b) (y ∷ without n st) (without n st)) ≡ None
    which true e r = r
    which false e r = cond-false (eqb y.number n) (Some y) (stands n (without n st)) e ∙ r

-- what stands then is another, and stood before
pub stood : (n m : ℕ) (st : List Closing) (c : Closing) → stands n (without m st) ≡ Some c → (n ≡ m → ⊥) × (stands n st ≡ Some c)
stood n m st c e =
    let apart : n ≡ m → ⊥ = λ q. no_some (sym (stands_no_more m st) ∙ sym (ap (λ x. stands x (without m st)) q) ∙ e) in
    (apart, sym (stands_without n m st apart) ∙ e)

pub length_without : (n : ℕ) (st : List Closing) → length (without n st) ≤ length st
length_without n [] = omega arith
length_without n (y ∷ st) = which (eqb y.number n) (length_without n st)
  where
    which : (b : Bool) → length (without n st) ≤ length st → length (cond (not b) (y ∷ without n st) (without n st)) ≤ length (y ∷ st)
    which true h = omega arith
    which false h = omega arith
