-- An array made by a function of the index.
use Rattle.std.proofs.Common.{◌≡◌, ℕ, zero, suc, ◌+◌, ◌<◌, ◌≤◌, List, length, map, get_or, inl, inr, arith, sym, refl, ap, ◌∙◌, subst}
use Rattle.std.specs.Array.{IsFromFnResultFrom, IsFromFnResult}
use Rattle.std.specs.Fn.{Called}
use Rattle.std.specs.List.{range_with_len}
use Rattle.std.proofs.lemmas.List.FromFn.{fill_by_all}
use Rattle.std.proofs.lemmas.Bool.{cases_lt}
use denote.Param.Members.{Mut}

module _ {F : Type 0} (g : Mut F (ℕ × Unit {0}) ℕ) (f : F) (h : ℕ → ℕ)
    (each : (i y : ℕ) (q : F) → Called g f (i, tt) y q → (q ≡ f) × (y ≡ h i)) (ys : List ℕ) where
  from : (n i k : ℕ) (p : F) → p ≡ f → i + n ≤ length ys → IsFromFnResultFrom g p ys i n → i ≤ k → k < i + n → get_or ys k 0 ≡ h k
  from zero i k p e s r l m = absurd (omega arith)
  from (suc n) i k p e s r l m =
      let c = each i r.1 r.0 (subst (λ a. Called g a (i, tt) r.1 r.0) e r.3) in
      elim (cases_lt i k) [
        | inl below ↦ from n (i + 1) k r.0 c.0 (omega arith) r.4 (omega arith) (omega arith)
        | inr above ↦
            let is : i ≡ k = omega arith in
            ap (λ a. get_or ys a 0) (sym is) ∙ r.2.1 0 ∙ c.1 ∙ ap h is
      ]

  pub made : (n : ℕ) → IsFromFnResult g f ys n → ys ≡ map h (range_with_len 0 n)
  made n r = fill_by_all h ys n 0 r.long (λ k l. from n 0 k f refl (omega (arith, r.long)) r.each (omega arith) (omega arith))
