-- Folds over the chunks of a list.
use Rattle.std.proofs.Common.{◌≡◌, ℕ, zero, suc, ◌+◌, ◌*◌, ◌<◌, ◌≤◌, List, [], ◌∷◌, length, get_or, take, drop, fold, refl, ap, ◌∙◌, arith, drop-cons}
use Rattle.std.specs.List.{zip}
use Rattle.std.specs.Simd.{first_chunks}
use Rattle.std.proofs.lemmas.List.{drop-drop}
use Rattle.constants.specs.Tables.{round_constants}
use Rattle.octets.specs.BigEndian.{value}
use Rattle.sha256.specs.Sha256.{word_at, rounds, compress, chaining}
use Rattle.sha256.specs.Steps.{round_with}

-- chunk t
pub chunk_at : (n k t : ℕ) (s : List ℕ) → t < k → get_or (first_chunks n k s) t [] ≡ take n (drop (t * n) s)
chunk_at n zero t s h = absurd (omega arith)
chunk_at n (suc k) zero s h = let e : 0 ≡ 0 * n = omega arith in ap (λ i. take n (drop i s)) e
chunk_at n (suc k) (suc t) s h =
    let r = chunk_at n k t (drop n s) (omega arith) in
    let e : n + t * n ≡ suc t * n = omega arith in
    r ∙ ap (take n) (drop-drop (t * n) n s ∙ ap (λ i. drop i s) e)

next : (s : List ℕ) (k j : ℕ) → k < length s → j ≡ k + 1 → drop k s ≡ get_or s k 0 ∷ drop j s
next s k j h e = let i : suc k ≡ j = omega arith in drop-cons s k 0 h ∙ ap (λ m. get_or s k 0 ∷ drop m s) i

four : (s : List ℕ) (k : ℕ) → k + 4 ≤ length s → take 4 (drop k s) ≡ get_or s k 0 ∷ get_or s (k + 1) 0 ∷ get_or s (k + 2) 0 ∷ get_or s (k + 3) 0 ∷ []
four s k h =
    let a = next s k (k + 1) (omega arith) refl in
    let b = next s (k + 1) (k + 2) (omega arith) (omega arith) in
    let c = next s (k + 2) (k + 3) (omega arith) (omega arith) in
    let d = next s (k + 3) (k + 4) (omega arith) (omega arith) in
    rw (a, b, c, d)

-- the number that four bytes write
pub word_is : (s : List ℕ) (t : ℕ) → t * 4 + 4 ≤ length s → value (take 4 (drop (t * 4) s)) ≡ word_at s t
unfolding word_at
word_is s t h = rw (four s (t * 4) h) (omega arith)

constants_count : length round_constants ≡ 64
unfolding round_constants
constants_count = refl

-- n rounds from round m on, one for each pair
rounds_on : (h ws : List ℕ) (n m j : ℕ) → m + n ≤ 64 → m + n ≤ length ws → j ≡ m + n
    → fold round_with (rounds m h ws) (zip (take n (drop m round_constants)) (take n (drop m ws))) ≡ rounds j h ws
unfolding rounds
rounds_on h ws zero m j a b e = let i : m ≡ j = omega arith in ap (λ k. rounds k h ws) i
rounds_on h ws (suc n) m j a b e =
    let p = drop-cons round_constants m 0 (omega (arith, constants_count)) in
    let q = drop-cons ws m 0 (omega arith) in
    let r = rounds_on h ws n (suc m) j (omega arith) (omega arith) (omega arith) in
    rw (p, q) r

-- the same, n chunks of eight
pub chunks_on : (h ws : List ℕ) (n m j : ℕ) → m + n * 8 ≤ 64 → m + n * 8 ≤ length ws → j ≡ m + n * 8
    → fold (λ s (p : List ℕ × List ℕ). fold round_with s (zip p.0 p.1)) (rounds m h ws) (zip (first_chunks 8 n (drop m round_constants)) (first_chunks 8 n (drop m ws))) ≡ rounds j h ws
chunks_on h ws zero m j a b e = let i : m ≡ j = omega arith in ap (λ k. rounds k h ws) i
chunks_on h ws (suc n) m j a b e =
    let p = rounds_on h ws 8 m (m + 8) (omega arith) (omega arith) refl in
    let r = chunks_on h ws n (m + 8) j (omega arith) (omega arith) (omega arith) in
    rw (p, drop-drop 8 m round_constants, drop-drop 8 m ws) r

-- the chaining words after n blocks from block m on
pub blocks_on : (s : List ℕ) (n m j : ℕ) → j ≡ m + n → fold compress (chaining m s) (first_chunks 64 n (drop (m * 64) s)) ≡ chaining j s
unfolding chaining
blocks_on s zero m j e = let i : m ≡ j = omega arith in ap (λ k. chaining k s) i
blocks_on s (suc n) m j e =
    let r = blocks_on s n (suc m) j (omega arith) in
    let i : m * 64 + 64 ≡ suc m * 64 = omega arith in
    ap (fold compress (chaining (suc m) s)) (ap (first_chunks 64 n) (drop-drop 64 (m * 64) s ∙ ap (λ k. drop k s) i)) ∙ r
