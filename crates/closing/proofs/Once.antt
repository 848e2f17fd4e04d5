-- No number stands twice, so the closing that is withdrawn is one of the list.
use Rattle.std.proofs.Common.{◌≡◌, ℕ, Bool, true, false, cond, not, eqb, List, [], ◌∷◌, ◌++◌, Some, None, Option, sym, refl, ap, ◌∙◌, inl, inr}
use Rattle.std.proofs.lemmas.Bool.{cases_eq, cond-true, cond-false, eqb-false, eq-eqb, ne_eqb}
use Rattle.closing.specs.Closings.{Closing, stands, without}
use Rattle.closing.specs.Holdings.{Once}
use Rattle.closing.proofs.Stands.{no_some, stands_without, stands_no_more}

-- nothing stands under a number: neither the first closing nor one of the rest
none_of : (n : ℕ) (y : Closing) (rest : Option Closing) → cond (eqb y.number n) (Some y) rest ≡ None → (y.number ≡ n → ⊥) × (rest ≡ None)
none_of n y rest e = which (eqb y.number n) refl e
  where
    which : (b : Bool) → eqb y.number n ≡ b → cond b (Some y) rest ≡ None → (y.number ≡ n → ⊥) × (rest ≡ None)
    which true q e = no_some (sym e)
    which false q e = (eqb-false y.number n q, e)

none_on : (n : ℕ) (y : Closing) (rest : Option Closing) → (y.number ≡ n → ⊥) → rest ≡ None → cond (eqb y.number n) (Some y) rest ≡ None
none_on n y rest apart e = cond-false (eqb y.number n) (Some y) rest (ne_eqb y.number n apart) ∙ e

none_more : (n : ℕ) (st : List Closing) (x : Closing) → stands n st ≡ None → (x.number ≡ n → ⊥) → stands n (st ++ (x ∷ [])) ≡ None
none_more n [] x e apart = none_on n x None apart refl
none_more n (y ∷ st) x e apart = let f = none_of n y (stands n st) e in none_on n y (stands n (st ++ (x ∷ []))) f.0 (none_more n st x f.1 apart)

-- what does not stand does not by a withdrawal either
pub not_back : (m n : ℕ) (st : List Closing) → stands m st ≡ None → stands m (without n st) ≡ None
not_back m n st e = elim (cases_eq m n) [ inl q ↦ ap (λ x. stands m (without x st)) (sym q) ∙ stands_no_more m st | inr apart ↦ stands_without m n st apart ∙ e ]

pub once_more : (st : List Closing) (c : Closing) → Once st → stands c.number st ≡ None → Once (st ++ (c ∷ []))
once_more [] c o e = (refl, tt)
once_more (y ∷ st) c o e =
    let f = none_of c.number y (stands c.number st) e in
    (none_more y.number st c o.0 (λ q. f.0 (sym q)), once_more st c o.1 f.1)

pub once_without : (n : ℕ) (st : List Closing) → Once st → Once (without n st)
once_without n [] o = tt
once_without n (y ∷ st) o = which (eqb y.number n) (once_without n st o.1)
  where
    which : (b : Bool) → Once (without n st) → Once (cond (not b) (y ∷ without n st) (without n st))
    which true r = r
    which false r = (not_back y.number n st o.0, r)

without_none : (n : ℕ) (st : List Closing) → stands n st ≡ None → without n st ≡ st
without_none n [] e = refl
without_none n (y ∷ st) e =
    let f = none_of n y (stands n st) e in
    ap (λ b. cond (not b) (y ∷ without n st) (without n st)) (ne_eqb y.number n f.0) ∙ ap (λ x. y ∷ x) (without_none n st f.1)

-- under the number of a closing of the list one stands
listed : (front back : List Closing) (c : Closing) → stands c.number (front ++ (c ∷ back)) ≡ None → ⊥
listed [] back c e = (none_of c.number c (stands c.number back) e).0 refl
listed (y ∷ front) back c e = listed front back c (none_of c.number y (stands c.number (front ++ (c ∷ back))) e).1

-- the one that is withdrawn is taken out, and the others stay in order
pub without_one : (front back : List Closing) (c : Closing) → Once (front ++ (c ∷ back)) → without c.number (front ++ (c ∷ back)) ≡ front ++ back
without_one [] back c o = ap (λ b. cond (not b) (c ∷ without c.number back) (without c.number back)) (eq-eqb c.number c.number refl) ∙ without_none c.number back o.0
without_one (y ∷ front) back c o =
    let apart : y.number ≡ c.number → ⊥ = λ q. listed front back c (ap (λ x. stands x (front ++ (c ∷ back))) (sym q) ∙ o.0) in
    ap (λ b. cond (not b) (y ∷ without c.number (front ++ (c ∷ back))) (without c.number (front ++ (c ∷ back)))) (ne_eqb y.number c.number apart)
    ∙ ap (λ x. y ∷ x) (without_one front back c o.1)
