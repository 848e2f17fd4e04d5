-- The other way round: what the walk finds, from what the texts are.
use Rattle.std.proofs.Common.{◌≡◌, ℕ, zero, suc, ◌<◌, ◌≤◌, Bool, true, false, cond, not, ◌&&◌, T, eqb, List, [], ◌∷◌, Some, None, sym, refl, ap, ◌∙◌, subst, inl, inr, ⊎_elim, arith}
use Rattle.std.proofs.lemmas.Bool.{cases_lt, eqb-true, eq-eqb, ne_eqb, or_left, or_right, or_from, cond-true, cond-false}
use Rattle.octets.specs.Tests.{same}
use Rattle.octets.proofs.Passes.{same_out, same_refl, true_T, false_T}
use Rattle.amount.specs.Kinds.{Kind}
use Rattle.digest.specs.Hashes.{Hash}
use Rattle.sheet.specs.Layout.{Sheet}
use Rattle.file.specs.Layout.{File}
use Rattle.audit.specs.Audits.{Texts, place_at, text_at, through, two_at, or_lower, clash_from, new_inner}
use Rattle.audit.specs.Promise.{Among}

not_differs : (x y : ℕ) (t u : List ℕ) → (x ≡ y → t ≡ u) → eqb x y && not (same t u) ≡ false
not_differs x y t u f = which (eqb x y) refl
  where
    which : (b : Bool) → eqb x y ≡ b → b && not (same t u) ≡ false
    which true e = ap not (true_T (same t u) (subst (λ v. T (same t v)) (f (eqb-true x y e)) (same_refl t)))
    which false e = refl

module _ (k : Kind) (h : Hash) (s : Sheet) where
  -- the places of g and f at a height are one
  abbrev pub Meet : File → File → ℕ → Type 0
  Meet g f j = place_at k h s g j ≡ place_at k h s f j

  pub agree_two : (fs : List File) (f : File) (j : ℕ) → ((g : File) → Among g fs → Meet g f j → text_at k h s g j ≡ text_at k h s f j) → two_at k h s fs f j ≡ None
  agree_two [] f j a = refl
  agree_two (x ∷ fs) f j a =
      cond-false (eqb (place_at k h s x j) (place_at k h s f j) && not (same (text_at k h s x j) (text_at k h s f j))) (Some (record { stored = text_at k h s x j; offered = text_at k h s f j })) (two_at k h s fs f j)
      (not_differs (place_at k h s x j) (place_at k h s f j) (text_at k h s x j) (text_at k h s f j) (a x (inl refl)))
      ∙ agree_two fs f j (λ g m. a g (inr m))

  -- each file that meets f there has the text t, another one than f's
  pub other_two : (fs : List File) (f : File) (j : ℕ) (t : List ℕ) → ((g : File) → Among g fs → Meet g f j → text_at k h s g j ≡ t) → (t ≡ text_at k h s f j → ⊥)
      → (g : File) → Among g fs → Meet g f j → two_at k h s fs f j ≡ Some (record { stored = t; offered = text_at k h s f j })
  other_two [] f j t a n g m e = absurd m
  other_two (x ∷ fs) f j t a n g m e = which (λ l. other_two fs f j t (λ g m. a g (inr m)) n g l e) (eqb (place_at k h s x j) (place_at k h s f j)) refl
    where
      which : (Among g fs → two_at k h s fs f j ≡ Some (record { stored = t; offered = text_at k h s f j })) → (b : Bool) → eqb (place_at k h s x j) (place_at k h s f j) ≡ b
          → cond (b && not (same (text_at k h s x j) (text_at k h s f j))) (Some (record { stored = text_at k h s x j; offered = text_at k h s f j })) (two_at k h s fs f j)
          ≡ Some (record { stored = t; offered = text_at k h s f j })
      which rest true q =
          let i : text_at k h s x j ≡ t = a x (inl refl) (eqb-true (place_at k h s x j) (place_at k h s f j) q) in
          let d : not (same (text_at k h s x j) (text_at k h s f j)) ≡ true = ap not (false_T (same (text_at k h s x j) (text_at k h s f j)) (λ y. n (sym i ∙ same_out (text_at k h s x j) (text_at k h s f j) y))) in
          cond-true (not (same (text_at k h s x j) (text_at k h s f j))) (Some (record { stored = text_at k h s x j; offered = text_at k h s f j })) (two_at k h s fs f j) d
          ∙ ap (λ v. Some (record { stored = v; offered = text_at k h s f j })) i
      which rest false q =
          ⊎_elim (λ i. absurd (let b : ◌≡◌ {A = Bool} false true = sym q ∙ eq-eqb (place_at k h s x j) (place_at k h s f j) (ap (λ y. place_at k h s y j) (sym i) ∙ e) in let z : ◌≡◌ {A = ℕ} 0 1 = cc in omega arith)) rest m

  pub clash_none : (fs : List File) (f : File) (top : ℕ) → ((j : ℕ) → j ≤ top → two_at k h s fs f j ≡ None) → clash_from k h s fs f top ≡ None
  clash_none fs f zero a = a 0 (omega arith)
  clash_none fs f (suc top) a = ap (λ o. or_lower k h s o (clash_from k h s fs f top)) (a (suc top) (omega arith)) ∙ clash_none fs f top (λ j l. a j (omega arith))

  clash_at : (fs : List File) (f : File) (j : ℕ) (t : Texts) → two_at k h s fs f j ≡ Some t → clash_from k h s fs f j ≡ Some t
  clash_at fs f zero t e = e
  clash_at fs f (suc j) t e = ap (λ o. or_lower k h s o (clash_from k h s fs f j)) e

  pub clash_some : (fs : List File) (f : File) (top j : ℕ) (t : Texts) → j ≤ top → ((i : ℕ) → j < i → i ≤ top → two_at k h s fs f i ≡ None)
      → two_at k h s fs f j ≡ Some t → clash_from k h s fs f top ≡ Some t
  clash_some fs f zero j t l a e = subst (λ i. two_at k h s fs f i ≡ Some t) (let z : j ≡ 0 = omega arith in z) e
  clash_some fs f (suc top) j t l a e =
      ⊎_elim
      (λ (b : j < suc top). ap (λ o. or_lower k h s o (clash_from k h s fs f top)) (a (suc top) b (omega arith)) ∙ clash_some fs f top j t (omega arith) (λ i c d. a i c (omega arith)) e)
      (λ (b : suc top ≤ j). clash_at fs f (suc top) t (subst (λ i. two_at k h s fs f i ≡ Some t) (let z : j ≡ suc top = omega arith in z) e))
      (cases_lt j (suc top))

  pub through_in : (fs : List File) (f : File) (j : ℕ) (g : File) → Among g fs → Meet g f j → through k h s fs f j ≡ true
  through_in [] f j g m e = absurd m
  through_in (x ∷ fs) f j g m e =
      ⊎_elim (λ q. or_left (eqb (place_at k h s x j) (place_at k h s f j)) (through k h s fs f j) (eq-eqb (place_at k h s x j) (place_at k h s f j) (ap (λ y. place_at k h s y j) (sym q) ∙ e)))
      (λ n. or_right (eqb (place_at k h s x j) (place_at k h s f j)) (through k h s fs f j) (through_in fs f j g n e)) m

  pub through_none : (fs : List File) (f : File) (j : ℕ) → ((g : File) → Among g fs → Meet g f j → ⊥) → through k h s fs f j ≡ false
  through_none [] f j a = refl
  through_none (x ∷ fs) f j a =
      or_from (eqb (place_at k h s x j) (place_at k h s f j)) (through k h s fs f j) (ne_eqb (place_at k h s x j) (place_at k h s f j) (a x (inl refl))) (through_none fs f j (λ g m. a g (inr m)))

  -- no path goes through the places up to height j, and one goes through each place above
  new_low : (fs : List File) (f : File) (n : ℕ) → ((i : ℕ) → i ≤ n → through k h s fs f i ≡ false) → new_inner k h s fs f n ≡ n
  new_low fs f zero a = refl
  new_low fs f (suc n) a =
      let c : cond {A = ℕ} (through k h s fs f (suc n)) 0 1 ≡ 1 = ap (λ v. cond {A = ℕ} v 0 1) (a (suc n) (omega arith)) in
      let r = new_low fs f n (λ i l. a i (omega arith)) in
      omega arith

  pub new_count : (fs : List File) (f : File) (n j : ℕ) → j ≤ n → ((i : ℕ) → i ≤ j → through k h s fs f i ≡ false) → ((i : ℕ) → j < i → i ≤ n → through k h s fs f i ≡ true) → new_inner k h s fs f n ≡ j
  new_count fs f zero j l a b = omega arith
  new_count fs f (suc n) j l a b =
      ⊎_elim
      (λ (c : j < suc n).
      let d : cond {A = ℕ} (through k h s fs f (suc n)) 0 1 ≡ 0 = ap (λ v. cond {A = ℕ} v 0 1) (b (suc n) c (omega arith)) in
      let r = new_count fs f n j (omega arith) a (λ i x y. b i x (omega arith)) in
      omega arith)
      (λ (c : suc n ≤ j). let e : suc n ≡ j = omega arith in new_low fs f (suc n) (λ i x. a i (omega arith)) ∙ e)
      (cases_lt j (suc n))
