-- Finding and leaving out by a number, by what a list has of its items.
use Rattle.std.proofs.Common.{◌≡◌, ℕ, Bool, true, false, cond, not, eqb, List, [], ◌∷◌, map, Some, refl, ap}
use Rattle.std.specs.Option.{option_map}
use Rattle.roll.specs.Rolls.{under_number, without_number}

module _ {X Y : Type 0} (f : X → Y) (number : Y → ℕ) (n : ℕ) where
  pub under_map : (xs : List X) → under_number number n (map f xs) ≡ option_map f (under_number (λ (x : X). number (f x)) n xs)
  under_map [] = refl
  under_map (x ∷ xs) = which (eqb (number (f x)) n) (under_map xs)
    where
      which : (b : Bool) → under_number number n (map f xs) ≡ option_map f (under_number (λ (x : X). number (f x)) n xs)
          → cond b (Some (f x)) (under_number number n (map f xs)) ≡ option_map f (cond b (Some x) (under_number (λ (x : X). number (f x)) n xs))
      which true e = refl
      which false e = e

  pub without_map : (xs : List X) → without_number number n (map f xs) ≡ map f (without_number (λ (x : X). number (f x)) n xs)
  without_map [] = refl
  without_map (x ∷ xs) = which (eqb (number (f x)) n) (without_map xs)
    where
      which : (b : Bool) → without_number number n (map f xs) ≡ map f (without_number (λ (x : X). number (f x)) n xs)
          → cond (not b) (f x ∷ without_number number n (map f xs)) (without_number number n (map f xs)) ≡ map f (cond (not b) (x ∷ without_number (λ (x : X). number (f x)) n xs) (without_number (λ (x : X). number (f x)) n xs))
      which true e = e
      which false e = ap (λ l. f x ∷ l) e
