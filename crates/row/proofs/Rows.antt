-- Rows of numbers, one number after the other.
use Rattle.std.proofs.Common.{◌≡◌, ℕ, zero, suc, ◌+◌, ◌-◌, ◌*◌, ◌^◌, ◌<◌, true, ◌&&◌, List, [], ◌∷◌, ◌++◌, length, take, drop, replicate, sym, refl, ap, ◌∙◌, nat_le, arith, length-append, append_assoc, ltb→lt, Fits, w64}
use lib.Dec.{leb-suc-suc}
use borrow.Rule.Slice.PartMut.{put_mid, post_of}
use Rattle.std.specs.List.{list_all, zip, slice_index}
use Rattle.std.proofs.lemmas.List.{drop-drop, take_at, drop_at, length-take-le, length-replicate}
use Rattle.octets.specs.BigEndian.{be, value}
use Rattle.octets.proofs.Passes.{true_T, T_true, both_out}
use Rattle.refusal.specs.Tables.{written}
use Rattle.amount.specs.Rows.{plus, at_most, small, bytes, numbers}
use Rattle.amount.proofs.RowLaws.{bytes_length}

pub zero_long : (n : ℕ) → length (replicate {A = ℕ} n 0) ≡ n
zero_long n = length-replicate n 0

pub zero_small : (n : ℕ) → list_all small (replicate n 0) ≡ true
zero_small zero = refl
zero_small (suc n) = zero_small n

-- to be at most 2^63 - 1 is to be small
pub small_most : (x : ℕ) → nat_le x 9223372036854775807 ≡ small x
small_most x = sym (leb-suc-suc x 9223372036854775807)

-- number k of a row of small numbers
pub small_at : (m : List ℕ) (k : ℕ) → list_all small m ≡ true → slice_index m k < 2 ^ 63
small_at [] k h = omega arith
small_at (x ∷ m) zero h = ltb→lt x (2 ^ 63) (both_out (small x) (list_all small m) (T_true (list_all small (x ∷ m)) h)).0
small_at (x ∷ m) (suc k) h = small_at m k (true_T (list_all small m) (both_out (small x) (list_all small m) (T_true (list_all small (x ∷ m)) h)).1)

pub sum_fits : (a b : List ℕ) (i j : ℕ) → slice_index a i < 2 ^ 63 → list_all small b ≡ true → Fits w64 (slice_index a i + slice_index b j)
sum_fits a b i j h s = let g = small_at b j s in omega arith

pub pairs_at_most : (n : ℕ) (x y : List ℕ) → length x ≡ n → length y ≡ n → list_all (λ p. nat_le p.0 p.1) (zip x y) ≡ at_most x y
pairs_at_most n [] [] l m = refl
pairs_at_most n [] (b ∷ y) l m = absurd (omega arith)
pairs_at_most n (a ∷ x) [] l m = absurd (omega arith)
pairs_at_most n (a ∷ x) (b ∷ y) l m = ap (λ t. nat_le a b && t) (pairs_at_most (length x) x y refl (omega arith))

-- the order of rows as long as each other, as a test on their pairs
pub at_most_pairs : (x y : List ℕ) → length x ≡ length y → at_most x y ≡ list_all (λ p. nat_le p.0 p.1) (zip x y)
at_most_pairs x y h = sym (pairs_at_most (length y) x y h refl)

pub plus_each : (n : ℕ) (x y z : List ℕ) → length x ≡ n → length y ≡ n → length z ≡ n → ((k : ℕ) → k < n → slice_index z k ≡ slice_index x k + slice_index y k) → z ≡ plus x y
plus_each n [] y [] a b c h = refl
plus_each n [] y (e ∷ z) a b c h = absurd (omega arith)
plus_each n (u ∷ x) y [] a b c h = absurd (omega arith)
plus_each n (u ∷ x) [] (e ∷ z) a b c h = absurd (omega arith)
plus_each zero (u ∷ x) (v ∷ y) (e ∷ z) a b c h = absurd (omega arith)
plus_each (suc n) (u ∷ x) (v ∷ y) (e ∷ z) a b c h =
    let p = h 0 (omega arith) in
    let r = plus_each n x y z (omega arith) (omega arith) (omega arith) (λ k l. h (suc k) (omega arith)) in
    cc

pub numbers_each : (n : ℕ) (s ys : List ℕ) → length ys ≡ n → ((k : ℕ) → k < n → slice_index ys k ≡ value (take 8 (drop (8 * k) s))) → ys ≡ numbers n s
numbers_each zero s [] l h = refl
numbers_each zero s (y ∷ ys) l h = absurd (omega arith)
numbers_each (suc n) s [] l h = absurd (omega arith)
numbers_each (suc n) s (y ∷ ys) l h =
    let p : y ≡ value (take 8 s) = h 0 (omega arith) in
    let r = numbers_each n (drop 8 s) ys (omega arith) (λ k i. h (suc k) (omega arith) ∙ ap (λ m. value (take 8 (drop m s))) (omega arith) ∙ ap (λ t. value (take 8 t)) (sym (drop-drop (8 * k) 8 s))) in
    cc

-- the bytes of one number more
bytes_more : (i : ℕ) (m : List ℕ) → i < length m → bytes (take (suc i) m) ≡ bytes (take i m) ++ be 8 (slice_index m i)
bytes_more i [] l = absurd (omega arith)
bytes_more zero (x ∷ m) l = refl
bytes_more (suc i) (x ∷ m) l = ap (λ b. be 8 x ++ b) (bytes_more i m (omega arith)) ∙ sym (append_assoc (be 8 x) (bytes (take i m)) (be 8 (slice_index m i)))

-- one more part after those that are written
step : (p q b : List ℕ) (n : ℕ) → length p ≡ n → put_mid n 8 (p ++ q) b ≡ p ++ (b ++ drop 8 q)
step p q b n e =
    let f = take_at p q n e in
    let g = drop_at p q n e in
    ap (λ l. l ++ (b ++ post_of n 8 (p ++ q))) f ∙ ap (λ l. p ++ (b ++ drop 8 l)) g

pub put_number : (m o : List ℕ) (i : ℕ) → i < length m → put_mid (8 * i) (8 * i + 8 - 8 * i) (written (bytes (take i m)) o) (be 8 (slice_index m i)) ≡ written (bytes (take (i + 1) m)) o
put_number m o i l =
    let p = bytes (take i m) in
    let b = be 8 (slice_index m i) in
    let n : length p ≡ 8 * i = bytes_length (take i m) ∙ ap (λ j. 8 * j) (length-take-le i m (omega arith)) in
    let k : length (p ++ b) ≡ 8 * i + 8 = length-append p b ∙ ap (λ k. k + 8) n in
    let q = drop (8 * i) o in
    let w : 8 * i + 8 - 8 * i ≡ 8 = omega arith in
    ap (λ d. put_mid (8 * i) d (written p o) b) w
    ∙ ap (λ d. put_mid (8 * i) 8 (p ++ drop d o) b) n
    ∙ step p q b (8 * i) n
    ∙ ap (λ t. p ++ (b ++ t)) (drop-drop 8 (8 * i) o)
    ∙ sym (append_assoc p b (drop (8 * i + 8) o))
    ∙ ap (λ d. (p ++ b) ++ drop d o) (sym k)
    ∙ ap (λ s. written s o) (sym (bytes_more i m l) ∙ ap (λ j. bytes (take j m)) (let e : suc i ≡ i + 1 = omega arith in e))
