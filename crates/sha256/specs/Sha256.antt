-- SHA-256 as FIPS 180-4 defines it, over lists of words and bytes.
use Rattle.std.specs.Prelude.{ℕ, zero, suc, ◌+◌, ◌-◌, ◌*◌, ◌/◌, ◌%◌, List, [], ◌∷◌, ◌++◌, length, take, drop, replicate, slice_index}
use Rattle.octets.specs.BigEndian.{be}
use Rattle.constants.specs.Tables.{round_constants, initial_hash}
use Rattle.sha256.specs.Words.{add, choose, majority, Σ0, Σ1, σ0, σ1}

-- word t of a block
unfoldable pub word_at : List ℕ → ℕ → ℕ
word_at s t = slice_index s (t * 4) * 16777216 + slice_index s (t * 4 + 1) * 65536 + slice_index s (t * 4 + 2) * 256 + slice_index s (t * 4 + 3)

-- its first n words
unfoldable pub words : ℕ → List ℕ → List ℕ
words zero s = []
words (suc n) s = words n s ++ (word_at s n ∷ [])

-- word t of the schedule, from those before it
unfoldable pub next : List ℕ → ℕ → ℕ
next w t = add (add (σ1 (slice_index w (t - 2))) (slice_index w (t - 7))) (add (σ0 (slice_index w (t - 15))) (slice_index w (t - 16)))

-- the schedule's first 16 + n words, and all 64
unfoldable pub scheduled : ℕ → List ℕ → List ℕ
scheduled zero s = words 16 s
scheduled (suc n) s = scheduled n s ++ (next (scheduled n s) (16 + n) ∷ [])

unfoldable pub schedule : List ℕ → List ℕ
schedule s = scheduled 48 s

-- one round on the words a to h, with a constant k and a word w of the schedule
unfoldable pub round : List ℕ → ℕ → ℕ → List ℕ
round s k w =
    let t1 = add (add (add (add (slice_index s 7) (Σ1 (slice_index s 4))) (choose (slice_index s 4) (slice_index s 5) (slice_index s 6))) k) w in
    let t2 = add (Σ0 (slice_index s 0)) (majority (slice_index s 0) (slice_index s 1) (slice_index s 2)) in
    add t1 t2 ∷ slice_index s 0 ∷ slice_index s 1 ∷ slice_index s 2 ∷ add (slice_index s 3) t1 ∷ slice_index s 4 ∷ slice_index s 5 ∷ slice_index s 6 ∷ []

-- n rounds
unfoldable pub rounds : ℕ → List ℕ → List ℕ → List ℕ
rounds zero h w = h
rounds (suc n) h w = round (rounds n h w) (slice_index round_constants n) (slice_index w n)

unfoldable pub added : List ℕ → List ℕ → List ℕ
added h s =
    add (slice_index h 0) (slice_index s 0) ∷ add (slice_index h 1) (slice_index s 1) ∷ add (slice_index h 2) (slice_index s 2) ∷ add (slice_index h 3) (slice_index s 3)
    ∷ add (slice_index h 4) (slice_index s 4) ∷ add (slice_index h 5) (slice_index s 5) ∷ add (slice_index h 6) (slice_index s 6) ∷ add (slice_index h 7) (slice_index s 7) ∷ []

-- the chaining words after one block
unfoldable pub compress : List ℕ → List ℕ → List ℕ
compress h s = added h (rounds 64 h (schedule s))

-- the chaining words after the first n blocks of s
unfoldable pub chaining : ℕ → List ℕ → List ℕ
chaining zero s = initial_hash
chaining (suc n) s = compress (chaining n s) (take 64 (drop (n * 64) s))

unfoldable pub bytes : List ℕ → List ℕ
bytes [] = []
bytes (x ∷ xs) = be 4 x ++ bytes xs

-- what follows a text of n bytes: 0x80, z zero bytes, and its length in bits
unfoldable pub ending : ℕ → ℕ → List ℕ
ending z n = (128 ∷ replicate z 0) ++ be 8 (n * 8)

-- the fewest zero bytes to a length of 56 modulo 64
unfoldable pub padded : List ℕ → List ℕ
padded s = s ++ ending ((119 - length s % 64) % 64) (length s)

unfoldable pub sha256 : List ℕ → List ℕ
sha256 s = bytes (chaining (length (padded s) / 64) (padded s))
