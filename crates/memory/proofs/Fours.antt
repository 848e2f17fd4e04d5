-- What a number of four bytes reads as after a write.
use Rattle.std.proofs.Common.{[], ◌∷◌, suc, sym, ap, add-zero, ◌≡◌, ℕ, ◌+◌, ◌*◌, ◌/◌, ◌%◌, ◌<◌, ◌≤◌, ◌≢◌, ◌⊎◌, List, length, get_or, set, ◌∙◌, inl, inr, arith}
use Rattle.std.proofs.lemmas.List.{get_or-set_same, get_or-set_other, length-set}
use Rattle.std.proofs.Math.Seq.{paste, paste-suc, paste-zero}
use Rattle.memory.specs.Four.{be4, put4}

pub length_put4 : (xs : List ℕ) (i n : ℕ) → length (put4 xs i n) ≡ length xs
length_put4 xs i n = simp length-set

-- a byte outside of the four
pub getD_put4 : (xs : List ℕ) (i n j : ℕ) → (j < i) ⊎ (i + 4 ≤ j) → get_or (put4 xs i n) j 0 ≡ get_or xs j 0
getD_put4 xs i n j (inl h) =
    let a : j ≢ i = omega arith in
    let b : j ≢ i + 1 = omega arith in
    let c : j ≢ i + 2 = omega arith in
    let d : j ≢ i + 3 = omega arith in
    rw (get_or-set_other, get_or-set_other, get_or-set_other, get_or-set_other)
getD_put4 xs i n j (inr h) =
    let a : j ≢ i = omega arith in
    let b : j ≢ i + 1 = omega arith in
    let c : j ≢ i + 2 = omega arith in
    let d : j ≢ i + 3 = omega arith in
    rw (get_or-set_other, get_or-set_other, get_or-set_other, get_or-set_other)

pub be4_put4_other : (xs : List ℕ) (i n j : ℕ) → (j + 4 ≤ i) ⊎ (i + 4 ≤ j) → be4 (put4 xs i n) j ≡ be4 xs j
be4_put4_other xs i n j (inl h) =
    simp (getD_put4 xs i n j (inl (omega arith)), getD_put4 xs i n (j + 1) (inl (omega arith)), getD_put4 xs i n (j + 2) (inl (omega arith)), getD_put4 xs i n (j + 3) (inl (omega arith)))
be4_put4_other xs i n j (inr h) =
    simp (getD_put4 xs i n j (inr (omega arith)), getD_put4 xs i n (j + 1) (inr (omega arith)), getD_put4 xs i n (j + 2) (inr (omega arith)), getD_put4 xs i n (j + 3) (inr (omega arith)))

digits4 : (n : ℕ) → n / 16777216 * 16777216 + n / 65536 % 256 * 65536 + n / 256 % 256 * 256 + n % 256 ≡ n
digits4 n = omega arith

-- the four bytes, from the last write back
pub be4_put4_same : (xs : List ℕ) (i n : ℕ) → i + 4 ≤ length xs → be4 (put4 xs i n) i ≡ n
be4_put4_same xs i n h =
    let a : List ℕ = set xs i (n / 16777216) in
    let b : List ℕ = set a (i + 1) (n / 65536 % 256) in
    let c : List ℕ = set b (i + 2) (n / 256 % 256) in
    let ls : length a ≡ length xs = length-set xs i (n / 16777216) in
    let lb : length b ≡ length a = length-set a (i + 1) (n / 65536 % 256) in
    let lc : length c ≡ length b = length-set b (i + 2) (n / 256 % 256) in
    let e0 : get_or (set c (i + 3) (n % 256)) i 0 ≡ n / 16777216 =
    get_or-set_other c (i + 3) i (n % 256) 0 (omega arith) ∙ get_or-set_other b (i + 2) i (n / 256 % 256) 0 (omega arith)
    ∙ get_or-set_other a (i + 1) i (n / 65536 % 256) 0 (omega arith) ∙ get_or-set_same xs i (n / 16777216) 0 (omega arith) in
    let e1 : get_or (set c (i + 3) (n % 256)) (i + 1) 0 ≡ n / 65536 % 256 =
    get_or-set_other c (i + 3) (i + 1) (n % 256) 0 (omega arith) ∙ get_or-set_other b (i + 2) (i + 1) (n / 256 % 256) 0 (omega arith)
    ∙ get_or-set_same a (i + 1) (n / 65536 % 256) 0 (omega arith) in
    let e2 : get_or (set c (i + 3) (n % 256)) (i + 2) 0 ≡ n / 256 % 256 =
    get_or-set_other c (i + 3) (i + 2) (n % 256) 0 (omega arith) ∙ get_or-set_same b (i + 2) (n / 256 % 256) 0 (omega arith) in
    let e3 : get_or (set c (i + 3) (n % 256)) (i + 3) 0 ≡ n % 256 = get_or-set_same c (i + 3) (n % 256) 0 (omega arith) in
    omega arith

-- the four bytes, written at once
pub paste_put4 : (xs : List ℕ) (i n : ℕ) (s : List ℕ) → n < 4294967296 → i + 4 ≤ length xs → s ≡ n / 16777216 % 256 ∷ n / 65536 % 256 ∷ n / 256 % 256 ∷ n % 256 ∷ [] → paste xs i s 4 ≡ put4 xs i n
paste_put4 xs i n s small fits is =
    let bs : List ℕ = n / 16777216 % 256 ∷ n / 65536 % 256 ∷ n / 256 % 256 ∷ n % 256 ∷ [] in
    let step : (j : ℕ) → j < 4 → paste xs i bs (suc j) ≡ set (paste xs i bs j) (i + j) (get_or bs j 0) = λ j h. sym (paste-suc xs i bs j 0 (omega arith) h) in
    let top : n / 16777216 % 256 ≡ n / 16777216 = omega arith in
    ap (λ z. paste xs i z 4) is
    ∙ step 3 (omega arith)
    ∙ ap (λ ys. set ys (i + 3) (n % 256)) (step 2 (omega arith) ∙ ap (λ ys. set ys (i + 2) (n / 256 % 256)) (step 1 (omega arith) ∙ ap (λ ys. set ys (i + 1) (n / 65536 % 256))
    (step 0 (omega arith) ∙ ap (λ ys. set ys (i + 0) (n / 16777216 % 256)) (sym (paste-zero xs i bs)) ∙ ap (λ k. set xs k (n / 16777216 % 256)) (add-zero i) ∙ ap (set xs i) top)))
