-- What a written part reads as, and that the rest stays.
use Rattle.std.proofs.Common.{◌≡◌, ℕ, ◌+◌, ◌<◌, ◌≤◌, ◌⊎◌, List, ◌++◌, length, get_or, take, drop, sym, refl, ap, ◌∙◌, inl, inr, arith, length-append, length-drop, length-take}
use Rattle.std.proofs.lemmas.List.{get_or-take, get_or-drop, length-take-le, take_at, drop_at, ext_get_or, places}
use Rattle.memory.specs.Part.{part, patch}

module _ (xs : List ℕ) (i : ℕ) (bs : List ℕ) (fits : i + length bs ≤ length xs) where
  pub length_patch : length (patch xs i bs) ≡ length xs
  unfolding patch
  length_patch = simp (length-append, length-take, length-drop) (omega arith)

  pub getD_patch : (k : ℕ) → (k < i) ⊎ (i + length bs ≤ k) → get_or (patch xs i bs) k 0 ≡ get_or xs k 0
  unfolding patch
  getD_patch k (inl h) = search (arith, places)
  getD_patch k (inr h) = grind (arith, places)

  pub getD_patch_in : (k : ℕ) → k < length bs → get_or (patch xs i bs) (i + k) 0 ≡ get_or bs k 0
  unfolding patch
  getD_patch_in k h = grind (arith, places)

  pub part_patch : part (patch xs i bs) i (length bs) ≡ bs
  unfolding patch
  part_patch =
      let l : length (take i xs) ≡ i = length-take-le i xs (omega arith) in
      ap (take (length bs)) (drop_at (take i xs) (bs ++ drop (i + length bs) xs) i l) ∙ take_at bs (drop (i + length bs) xs) (length bs) refl

-- two lists that agree there have the same part
pub part_same : (xs ys : List ℕ) (i n : ℕ) → length ys ≡ length xs → ((k : ℕ) → i ≤ k → k < i + n → get_or ys k 0 ≡ get_or xs k 0) → part ys i n ≡ part xs i n
part_same xs ys i n l h =
    ext_get_or 0 (part ys i n) (part xs i n) (simp (length-take, length-drop) (omega arith))
    (λ k b. let kn : k < n = omega (arith, simp (length-take, length-drop) at b) in
    get_or-take n (drop i ys) k 0 kn ∙ get_or-drop i ys k 0 ∙ h (i + k) (omega arith) (omega arith) ∙ sym (get_or-take n (drop i xs) k 0 kn ∙ get_or-drop i xs k 0))

pub part_patch_other : (xs : List ℕ) (i : ℕ) (bs : List ℕ) → i + length bs ≤ length xs → (j n : ℕ) → (j + n ≤ i) ⊎ (i + length bs ≤ j) → part (patch xs i bs) j n ≡ part xs j n
part_patch_other xs i bs fits j n (inl a) = part_same xs (patch xs i bs) j n (length_patch xs i bs fits) (λ k p q. getD_patch xs i bs fits k (inl (omega arith)))
part_patch_other xs i bs fits j n (inr a) = part_same xs (patch xs i bs) j n (length_patch xs i bs fits) (λ k p q. getD_patch xs i bs fits k (inr (omega arith)))
