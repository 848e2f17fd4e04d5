-- Counts of what passes below a number, and sums.
use mir.Val.{bool_byte}
use Rattle.std.proofs.Common.{List, ◌∷◌, length, zero-add, ◌≡◌, ℕ, zero, suc, ◌+◌, ◌*◌, ◌<◌, ◌≤◌, Bool, true, false, cond, not, ◌≢◌, sym, refl, ap, inl, inr, suc-mul, zero-mul, add-one, arith}
use Rattle.std.proofs.lemmas.Bool.{cases_eq}
use Rattle.std.specs.List.{filter, range_with_len}
use Rattle.store.specs.Counts.{tally, sum_to}

pub tally_more : (f : ℕ → Bool) (n : ℕ) → tally f (n + 1) ≡ tally f n + cond (f n) 1 0
tally_more f n = rw add-one

abbrev bit : Bool → ℕ
bit b = cond b 1 0

-- a test as a number
pub bit_byte : (b : Bool) → bool_byte b ≡ cond b 1 0
bit_byte true = refl
bit_byte false = refl

pub bit_le : (b : Bool) → cond b 1 0 ≤ 1
bit_le true = omega arith
bit_le false = omega arith

bit_not : (b : Bool) → bit (not b) + bit b ≡ 1
bit_not true = refl
bit_not false = refl

pub tally_le : (f : ℕ → Bool) (n : ℕ) → tally f n ≤ n
tally_le f zero = omega arith
tally_le f (suc n) = omega (arith, tally_le f n, bit_le (f n))

pub tally_same : (f g : ℕ → Bool) (n : ℕ) → ((k : ℕ) → k < n → g k ≡ f k) → tally g n ≡ tally f n
tally_same f g zero h = refl
tally_same f g (suc n) h = omega (arith, tally_same f g n (λ k l. h k (omega arith)), ap bit (h n (omega arith)))

pub tally_not : (f : ℕ → Bool) (n : ℕ) → tally (λ k. not (f k)) n + tally f n ≡ n
tally_not f zero = refl
tally_not f (suc n) = omega (arith, tally_not f n, bit_not (f n))

-- fewer are counted below a smaller number
pub tally_mono : (f : ℕ → Bool) (n k : ℕ) → k ≤ n → tally f k ≤ tally f n
tally_mono f zero k h = let e : k ≡ 0 = omega arith in omega (arith, ap (tally f) e)
tally_mono f (suc n) k h = elim (cases_eq k (suc n)) [ inl e ↦ omega (arith, ap (tally f) e) | inr d ↦ omega (arith, tally_mono f n k (omega arith)) ]

-- one that fails
pub tally_miss : (f : ℕ → Bool) (n k : ℕ) → k < n → f k ≡ false → tally f n < n
tally_miss f zero k l e = omega arith
tally_miss f (suc n) k l e =
    elim (cases_eq k n) [ inl s ↦ (let z : f n ≡ false = rw (sym s) e in omega (arith, tally_le f n, ap bit z)) | inr d ↦ omega (arith, tally_miss f n k (omega arith) e, bit_le (f n)) ]

-- one that passes
pub tally_some : (f : ℕ → Bool) (n k : ℕ) → k < n → f k ≡ true → 1 ≤ tally f n
tally_some f zero k l e = omega arith
tally_some f (suc n) k l e =
    elim (cases_eq k n) [ inl s ↦ (let z : f n ≡ true = rw (sym s) e in omega (arith, ap bit z)) | inr d ↦ omega (arith, tally_some f n k (omega arith) e) ]

-- one more
pub tally_put : (f g : ℕ → Bool) (n k : ℕ) → k < n → ((j : ℕ) → j < n → j ≢ k → g j ≡ f j) → f k ≡ false → g k ≡ true → tally g n ≡ tally f n + 1
tally_put f g zero k l o e t = omega arith
tally_put f g (suc n) k l o e t =
    elim (cases_eq k n) [
      | inl s ↦ (let z : f n ≡ false = rw (sym s) e in
          let y : g n ≡ true = rw (sym s) t in
          omega (arith, tally_same f g n (λ j h. o j (omega arith) (omega arith)), ap bit z, ap bit y))
      | inr d ↦ omega (arith, tally_put f g n k (omega arith) (λ j h. o j (omega arith)) e t, ap bit (o n (omega arith) (omega arith)))
    ]

pub tally_none : (f : ℕ → Bool) (n : ℕ) → ((k : ℕ) → k < n → f k ≡ false) → tally f n ≡ 0
tally_none f zero h = refl
tally_none f (suc n) h = omega (arith, tally_none f n (λ k l. h k (omega arith)), ap bit (h n (omega arith)))

pub tally_all : (f : ℕ → Bool) (n : ℕ) → ((k : ℕ) → k < n → f k ≡ true) → tally f n ≡ n
tally_all f zero h = refl
tally_all f (suc n) h = omega (arith, tally_all f n (λ k l. h k (omega arith)), ap bit (h n (omega arith)))

-- each in one of two
pub tally_two : (f g h : ℕ → Bool) (n : ℕ) → ((k : ℕ) → k < n → cond {A = ℕ} (h k) 1 0 ≡ cond {A = ℕ} (f k) 1 0 + cond {A = ℕ} (g k) 1 0) → tally h n ≡ tally f n + tally g n
tally_two f g h zero e = refl
tally_two f g h (suc n) e = omega (arith, tally_two f g h n (λ k l. e k (omega arith)), e n (omega arith))

pub sum_to_same : (f g : ℕ → ℕ) (n : ℕ) → ((k : ℕ) → k < n → g k ≡ f k) → sum_to g n ≡ sum_to f n
sum_to_same f g zero h = refl
sum_to_same f g (suc n) h = omega (arith, sum_to_same f g n (λ k l. h k (omega arith)), h n (omega arith))

-- one term changed
pub sum_to_change : (f g : ℕ → ℕ) (n k : ℕ) → k < n → ((j : ℕ) → j ≢ k → g j ≡ f j) → sum_to g n + f k ≡ sum_to f n + g k
sum_to_change f g zero k l o = omega arith
sum_to_change f g (suc n) k l o =
    elim (cases_eq k n) [
      | inl e ↦ omega (arith, sum_to_same f g n (λ j h. o j (omega arith)), ap f e, ap g e)
      | inr d ↦ omega (arith, sum_to_change f g n k (omega arith) o, o n (omega arith))
    ]

-- a term is part of the whole
pub le_sum_to : (f : ℕ → ℕ) (n k : ℕ) → k < n → f k ≤ sum_to f n
le_sum_to f zero k l = omega arith
le_sum_to f (suc n) k l = elim (cases_eq k n) [ inl e ↦ omega (arith, ap f e) | inr d ↦ omega (arith, le_sum_to f n k (omega arith)) ]

pub sum_to_none : (f : ℕ → ℕ) (n : ℕ) → ((k : ℕ) → f k ≡ 0) → sum_to f n ≡ 0
sum_to_none f zero h = refl
sum_to_none f (suc n) h = omega (arith, sum_to_none f n h, h n)

-- terms that are at most b
pub sum_to_le : (f : ℕ → ℕ) (n b : ℕ) → ((k : ℕ) → f k ≤ b) → sum_to f n ≤ n * b
sum_to_le f zero b h = omega (arith, zero-mul b)
sum_to_le f (suc n) b h = omega (arith, sum_to_le f n b h, h n, suc-mul n b)

-- and one of them less
pub sum_to_lt : (f : ℕ → ℕ) (n b k : ℕ) → ((j : ℕ) → f j ≤ b) → k < n → f k < b → sum_to f n < n * b
sum_to_lt f zero b k h l s = omega arith
sum_to_lt f (suc n) b k h l s =
    elim (cases_eq k n) [
      | inl e ↦ omega (arith, sum_to_le f n b h, ap f e, suc-mul n b)
      | inr d ↦ omega (arith, sum_to_lt f n b k h (omega arith) s, h n, suc-mul n b)
    ]

-- the first of them
tally_front : (f : ℕ → Bool) (n : ℕ) → tally f (suc n) ≡ bit (f 0) + tally (λ k. f (suc k)) n
tally_front f zero = omega arith
tally_front f (suc n) = omega (arith, tally_front f n)

-- those that pass of the n numbers from a on
pub tally_kept : (f : ℕ → Bool) (a n : ℕ) → length (filter f (range_with_len a n)) ≡ tally (λ k. f (k + a)) n
tally_kept f a zero = refl
tally_kept f a (suc n) =
    let more : length (filter f (a ∷ range_with_len (a + 1) n)) ≡ bit (f a) + length (filter f (range_with_len (a + 1) n)) = kept_first (f a) a (filter f (range_with_len (a + 1) n)) in
    let later : tally (λ k. f (suc k + a)) n ≡ tally (λ k. f (k + (a + 1))) n = tally_same _ _ n (λ k _. ap f (omega arith)) in
    omega (arith, more, later, tally_kept f (a + 1) n, tally_front (λ k. f (k + a)) n, ap (λ b. bit (f b)) (zero-add a))
  where
    kept_first : (b : Bool) (x : ℕ) (xs : List ℕ) → length (cond b (x ∷ xs) xs) ≡ bit b + length xs
    kept_first true x xs = omega arith
    kept_first false x xs = omega arith
