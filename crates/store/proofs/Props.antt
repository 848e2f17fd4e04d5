-- What a call changes has one proof at most, so it comes out of a truncated invariant.
use Rattle.std.proofs.Common.{◌≡◌, ℕ, List, [], ◌∷◌, Some, None, Option, sym, refl, ap, ◌∙◌}
use mathlib.Core.List.{is_set}
use mathlib.Core.HLevel.{Π_prop, →_prop, collapsible→set}
use native.Mathlib.Nat.{ℕ_set}
use Rattle.store.specs.Meaning.{Meaning}
use Rattle.store.specs.Calls.{Put, Cleared, SameLimits}

abbrev code : Option (List ℕ) → List (List ℕ)
code None = []
code (Some r) = r ∷ []

abbrev back : List (List ℕ) → Option (List ℕ)
back [] = None
back (r ∷ _) = Some r

there : (o : Option (List ℕ)) → back (code o) ≡ o
there None = refl
there (Some r) = refl

pub found_set : IsSet (Option (List ℕ))
found_set = collapsible→set (λ x y p. sym (there x) ∙ ap back (ap code p) ∙ there y)
    (λ x y p q. ap (λ e. sym (there x) ∙ ap back e ∙ there y) (is_set (is_set ℕ_set) (code x) (code y) (ap code p) (ap code q)))

limits_prop : (m n : Meaning) → IsProp (SameLimits m n)
limits_prop m n u v = λ i. record {
  width = ℕ_set n.width m.width u.width v.width i;
  first = ℕ_set n.first m.first u.first v.first i;
  last = ℕ_set n.last m.last u.last v.last i;
  bound = ℕ_set n.bound m.bound u.bound v.bound i;
}

pub put_prop : (m n : Meaning) (c p : ℕ) (r : List ℕ) → IsProp (Put m n c p r)
put_prop m n c p r u v = λ i. record {
  limits = limits_prop m n u.limits v.limits i;
  here = found_set _ _ u.here v.here i;
  others = Π_prop (λ d. Π_prop (λ q. →_prop (found_set (n.find d q) (m.find d q)))) u.others v.others i;
  room = ℕ_set _ _ u.room v.room i;
}

pub cleared_prop : (m n : Meaning) (c : ℕ) → IsProp (Cleared m n c)
cleared_prop m n c u v = λ i. record {
  limits = limits_prop m n u.limits v.limits i;
  here = Π_prop (λ q. found_set (n.find c q) None) u.here v.here i;
  others = Π_prop (λ d. Π_prop (λ q. →_prop (found_set (n.find d q) (m.find d q)))) u.others v.others i;
  room = ℕ_set _ _ u.room v.room i;
}
