-- A place has one height, and paths that meet stay together above.
use Rattle.std.proofs.Common.{◌≡◌, ℕ, zero, suc, ◌+◌, ◌-◌, ◌*◌, ◌/◌, ◌^◌, ◌<◌, ◌≤◌, ◌⊎◌, sym, ap, ◌∙◌, inl, inr, ⊎_elim, div-lt_iff_lt-mul, le-div_iff_mul-le, arith, pow_pos, pow_mono, pow-add, shr-shr}
use Rattle.std.proofs.lemmas.Bool.{cases_lt, cases_eq}
use Rattle.amount.specs.Kinds.{Kind}
use Rattle.digest.specs.Hashes.{Hash}
use Rattle.sheet.specs.Layout.{Sheet}
use Rattle.file.specs.Layout.{File}
use Rattle.audit.specs.Audits.{place_at}
use Rattle.audit.specs.Notebook.{left_place, right_place, ChildOf}

split_pow : (a i d : ℕ) → a + i ≡ d → 2 ^ a * 2 ^ i ≡ 2 ^ d
split_pow a i d e = sym (pow-add 2 a i) ∙ ap (λ n. 2 ^ n) e

module _ (k : Kind) (h : Hash) (s : Sheet) where
  place_low : (f : File) (i : ℕ) → i ≤ s.depth → 2 ^ (s.depth - i) ≤ place_at k h s f i
  place_low f i l =
      let e = split_pow (s.depth - i) i s.depth (omega arith) in
      (le-div_iff_mul-le {k = 2 ^ i} {x = 2 ^ (s.depth - i)} {y = 2 ^ s.depth + f.leaf} (pow_pos i)).1 (omega arith)

  place_high : (f : File) (i : ℕ) → f.leaf < 2 ^ s.depth → i ≤ s.depth → place_at k h s f i < 2 ^ (s.depth - i + 1)
  place_high f i n l =
      let e = split_pow (s.depth - i + 1) i (s.depth + 1) (omega arith) in
      let d = pow-add 2 s.depth 1 in
      (div-lt_iff_lt-mul {k = 2 ^ i} {x = 2 ^ s.depth + f.leaf} {y = 2 ^ (s.depth - i + 1)} (pow_pos i)).1 (omega arith)

  not_lower : (f g : File) (i j : ℕ) → g.leaf < 2 ^ s.depth → i < j → j ≤ s.depth → place_at k h s f i ≡ place_at k h s g j → ⊥
  not_lower f g i j n a l e =
      let x = place_low f i (omega arith) in
      let y = place_high g j n l in
      let z : 2 ^ (s.depth - j + 1) ≤ 2 ^ (s.depth - i) = pow_mono (omega arith) in
      omega arith

  pub one_height : (f g : File) (i j : ℕ) → f.leaf < 2 ^ s.depth → g.leaf < 2 ^ s.depth → i ≤ s.depth → j ≤ s.depth → place_at k h s f i ≡ place_at k h s g j → i ≡ j
  one_height f g i j m n a b e =
      ⊎_elim (λ (l : i < j). absurd (not_lower f g i j n l b e))
      (λ (l : j ≤ i). ⊎_elim (λ (l' : j < i). absurd (not_lower g f j i m l' a (sym e))) (λ (l' : i ≤ j). omega arith) (cases_lt j i))
      (cases_lt i j)

  pub stay : (f g : File) (i j : ℕ) → i ≤ j → place_at k h s f i ≡ place_at k h s g i → place_at k h s f j ≡ place_at k h s g j
  stay f g i j l e =
      let at : (x : File) → place_at k h s x i / 2 ^ (j - i) ≡ place_at k h s x j =
      λ x. shr-shr (2 ^ s.depth + x.leaf) i (j - i) ∙ ap (λ n. (2 ^ s.depth + x.leaf) / 2 ^ n) (added i j l) in
      sym (at f) ∙ ap (λ n. n / 2 ^ (j - i)) e ∙ at g
    where
      added : (i j : ℕ) → i ≤ j → i + (j - i) ≡ j
      added i j l = omega arith

  -- a child of a place of one path that is a child of a place of another
  pub one_parent : (f g : File) (i j p : ℕ) → ChildOf k h s f i p → ChildOf k h s g j p → place_at k h s f (suc i) ≡ place_at k h s g (suc j)
  one_parent f g i j p (inl a) (inl b) = omega arith
  one_parent f g i j p (inl a) (inr b) = absurd (omega arith)
  one_parent f g i j p (inr a) (inl b) = absurd (omega arith)
  one_parent f g i j p (inr a) (inr b) = omega arith

  -- whether a place is a child of the path, below the heights 1 to n
  pub on_path : (f : File) (p n : ℕ) → ((j : ℕ) × (j < n) × ChildOf k h s f j p) ⊎ ((j : ℕ) → j < n → ChildOf k h s f j p → ⊥)
  on_path f p zero = inr (λ j l c. absurd (omega arith))
  on_path f p (suc n) =
      ⊎_elim (λ e. inl (n, omega arith, inl e))
      (λ a. ⊎_elim (λ e. inl (n, omega arith, inr e))
      (λ b. ⊎_elim (λ x. inl (x.0, up x.0 x.1, x.2))
      (λ all. inr (λ j l c. ⊎_elim (λ (m : j < n). all j m c)
      (λ (m : n ≤ j). let i : j ≡ n = top j l m in ⊎_elim (λ e. a (e ∙ ap (left_place k h s f) i)) (λ e. b (e ∙ ap (right_place k h s f) i)) c) (cases_lt j n)))
      (on_path f p n))
      (cases_eq p (right_place k h s f n)))
      (cases_eq p (left_place k h s f n))
    where
      up : (j : ℕ) → j < n → j < suc n
      up j l = omega arith

      top : (j : ℕ) → j < suc n → n ≤ j → j ≡ n
      top j l m = omega arith
