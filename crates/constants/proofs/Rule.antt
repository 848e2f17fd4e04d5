-- One test over a whole table, and the rule that it shows at each entry.
use mathlib.Core.Path.{refl}
use mathlib.Core.Bool.{Bool, true, false, cond, ◌&&◌}
use mathlib.Core.List.{List, [], ◌∷◌}
use Prim.Native.Nat.{ℕ, zero, suc, ◌+◌, ◌*◌, ◌^◌, ◌<◌}
use native.Mathlib.Nat.{le_of_suc-le-suc, not-suc-le-zero}
use lib.Dec.{T, leb, ltb, leb→le, ltb→lt}
use lib.ListN.{length, get_or}
use Rattle.constants.specs.Tables.{round_constants, initial_hash}
use Rattle.constants.specs.Roots.{primes, Fraction, Fractions}

both_left : (a b : Bool) → T (a && b) → T a
both_left true b t = tt
both_left false b t = t

both_right : (a b : Bool) → T (a && b) → T b
both_right true b t = t
both_right false b t = absurd t

-- the whole part of a root that is at most `most`
abbrev whole : ℕ → ℕ → ℕ → ℕ
whole degree p zero = 0
whole degree p (suc most) = cond (leb (suc most ^ degree) p) (suc most) (whole degree p most)

abbrev low : ℕ → ℕ → ℕ → Bool
low degree p k = leb ((whole degree p 10 * 2 ^ 32 + k) ^ degree) (p * (2 ^ 32) ^ degree)

abbrev high : ℕ → ℕ → ℕ → Bool
high degree p k = ltb (p * (2 ^ 32) ^ degree) ((whole degree p 10 * 2 ^ 32 + k + 1) ^ degree)

abbrev right : ℕ → ℕ → ℕ → Bool
right degree p k = ltb k (2 ^ 32) && (low degree p k && high degree p k)

fraction : (degree p k : ℕ) → T (right degree p k) → Fraction degree p k
fraction degree p k t =
    let rest = both_right (ltb k (2 ^ 32)) (low degree p k && high degree p k) t in (
      whole degree p 10,
      (
        ltb→lt k (2 ^ 32) (both_left (ltb k (2 ^ 32)) (low degree p k && high degree p k) t),
        leb→le ((whole degree p 10 * 2 ^ 32 + k) ^ degree) (p * (2 ^ 32) ^ degree) (both_left (low degree p k) (high degree p k) rest),
        ltb→lt (p * (2 ^ 32) ^ degree) ((whole degree p 10 * 2 ^ 32 + k + 1) ^ degree) (both_right (low degree p k) (high degree p k) rest),
      ),
    )

abbrev every : ℕ → List ℕ → List ℕ → Bool
every degree [] [] = true
every degree [] (k ∷ ks) = false
every degree (p ∷ ps) [] = false
every degree (p ∷ ps) (k ∷ ks) = right degree p k && every degree ps ks

at : (degree : ℕ) (ps ks : List ℕ) → T (every degree ps ks) → (i : ℕ) → i < length ks → Fraction degree (get_or ps i 0) (get_or ks i 0)
at degree [] [] t i h = absurd (not-suc-le-zero h)
at degree [] (k ∷ ks) t i h = absurd t
at degree (p ∷ ps) [] t i h = absurd t
at degree (p ∷ ps) (k ∷ ks) t zero h = fraction degree p k (both_left (right degree p k) (every degree ps ks) t)
at degree (p ∷ ps) (k ∷ ks) t (suc i) h = at degree ps ks (both_right (right degree p k) (every degree ps ks) t) i (le_of_suc-le-suc h)

pub cube_roots : Fractions 3 (primes 310) round_constants
unfolding round_constants
cube_roots = (refl, at 3 (primes 310) round_constants tt)

pub square_roots : Fractions 2 (primes 18) initial_hash
unfolding initial_hash
square_roots = (refl, at 2 (primes 18) initial_hash tt)
