-- The rule of the constants: the first 32 bits behind the point of the roots of the first primes.
use Rattle.std.specs.Prelude.{◌≡◌, Bool, true, false, cond, List, [], ◌∷◌, ◌++◌, ℕ, zero, suc, ◌+◌, ◌*◌, ◌%◌, ◌^◌, ◌<◌, ◌≤◌, length, ◌==◌, slice_index}

-- no number from 2 to k + 1 divides n
abbrev pub undivided : ℕ → ℕ → Bool
undivided zero n = true
undivided (suc k) n = cond (n % (2 + k) == 0) false (undivided k n)

-- the primes from 2 to k + 1, in order
abbrev pub primes : ℕ → List ℕ
primes zero = []
primes (suc k) = cond (undivided k (2 + k)) (primes k ++ ((2 + k) ∷ [])) (primes k)

-- k / 2^32 is the fraction of the root of p, cut after 32 bits: a + k / 2^32 is at most the root, and a + (k + 1) / 2^32 is above it
abbrev pub Fraction : ℕ → ℕ → ℕ → Type 0
Fraction degree p k =
    (a : ℕ) × ((k < 2 ^ 32) × ((a * 2 ^ 32 + k) ^ degree ≤ p * (2 ^ 32) ^ degree) × (p * (2 ^ 32) ^ degree < (a * 2 ^ 32 + k + 1) ^ degree))

-- entry by entry
abbrev pub Fractions : ℕ → List ℕ → List ℕ → Type 0
Fractions degree ps ks = (length ks ≡ length ps) × ((i : ℕ) → i < length ks → Fraction degree (slice_index ps i) (slice_index ks i))
