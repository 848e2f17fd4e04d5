-- The digests of this crate.
use Rattle.std.specs.Prelude.{ℕ, ◌+◌, ◌%◌, List, [], ◌∷◌, ◌++◌, replicate}
use Rattle.sha256.specs.Sha256.{sha256}
use Rattle.digest.specs.declared.kinds.AnyDigest.{AnyDigest}
use Rattle.digest.specs.declared.kinds.AnyDigest.TheVariants.{Rehearsal, Sha256}
use Rattle.digest.specs.Hashes.{Hash}

abbrev pub sum : List ℕ → ℕ
sum [] = 0
sum (x ∷ xs) = x + sum xs

-- 31 zero bytes, and the sum of all bytes modulo 256
unfoldable pub rehearsed : List ℕ → List ℕ
rehearsed text = replicate 31 0 ++ (sum text % 256 ∷ [])

abbrev pub rehearsal : Hash
rehearsal = record { number = 9; of = rehearsed }

abbrev pub fips : Hash
fips = record { number = 1; of = sha256 }

abbrev pub any : AnyDigest → Hash
any Rehearsal = rehearsal
any Sha256 = fips
