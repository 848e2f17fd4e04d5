-- The digests give 32 bytes.
use Rattle.std.specs.Prelude.{◌≡◌, ℕ, zero, suc, ◌*◌, ◌/◌, ◌%◌, ◌<◌, List, [], ◌∷◌, ◌++◌, length, replicate, slice_index, refl}
use Rattle.std.proofs.Common.{ap, ◌∙◌, arith}
use Rattle.sha256.specs.Sha256.{bytes, chaining, compress, added, sha256, padded}
use Rattle.constants.specs.Tables.{initial_hash}
use Rattle.digest.specs.Hashes.{HashLaws}
use Rattle.digest.specs.declared.kinds.AnyDigest.{AnyDigest}
use Rattle.digest.specs.declared.kinds.AnyDigest.TheVariants.{Rehearsal, Sha256}
use Rattle.digest.specs.Digests.{sum, rehearsed, rehearsal, fips, any}

bytes_length : (xs : List ℕ) → length (bytes xs) ≡ 4 * length xs
unfolding bytes
bytes_length [] = refl
bytes_length (x ∷ xs) = let r = bytes_length xs in omega arith

bytes_small : (xs : List ℕ) (i : ℕ) → slice_index (bytes xs) i < 256
unfolding bytes
bytes_small [] i = omega arith
bytes_small (x ∷ xs) zero = omega arith
bytes_small (x ∷ xs) (suc zero) = omega arith
bytes_small (x ∷ xs) (suc (suc zero)) = omega arith
bytes_small (x ∷ xs) (suc (suc (suc zero))) = omega arith
bytes_small (x ∷ xs) (suc (suc (suc (suc i)))) = bytes_small xs i

chaining_length : (n : ℕ) (s : List ℕ) → length (chaining n s) ≡ 8
unfolding chaining initial_hash compress added
chaining_length zero s = refl
chaining_length (suc n) s = refl

pub fips_laws : HashLaws fips
unfolding sha256
fips_laws = record {
  number_small = omega arith;
  of_length = λ s. bytes_length (chaining (length (padded s) / 64) (padded s)) ∙ ap (λ n. 4 * n) (chaining_length (length (padded s) / 64) (padded s));
  of_bytes = λ s i. bytes_small (chaining (length (padded s) / 64) (padded s)) i;
}

zeros_then : (n x i : ℕ) → x < 256 → slice_index (replicate n 0 ++ (x ∷ [])) i < 256
zeros_then zero x zero h = h
zeros_then zero x (suc i) h = omega arith
zeros_then (suc n) x zero h = omega arith
zeros_then (suc n) x (suc i) h = zeros_then n x i h

pub rehearsal_laws : HashLaws rehearsal
unfolding rehearsed
rehearsal_laws = record {
  number_small = omega arith;
  of_length = λ s. refl;
  of_bytes = λ s i. zeros_then 31 (sum s % 256) i (omega arith);
}

pub any_laws : (d : AnyDigest) → HashLaws (any d)
any_laws Rehearsal = rehearsal_laws
any_laws Sha256 = fips_laws
