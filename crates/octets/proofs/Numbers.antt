-- Numbers and their bytes determine each other.
use Rattle.std.proofs.Common.{◌≡◌, ℕ, zero, suc, ◌+◌, ◌*◌, ◌/◌, ◌%◌, ◌^◌, ◌<◌, List, [], ◌∷◌, length, get_or, sym, refl, ap, ◌∙◌, mod-eq_of_lt, mul_assoc, div-add-mod', arith}
use native.Mathlib.Nat.{pow-succ', mod-one, mul-add-div_right, one-le-pow}
use lib.Arith.{mod-mul, digits_lt, digits_div}
use Rattle.octets.specs.BigEndian.{be, value}

pub be_length : (n x : ℕ) → length (be n x) ≡ n
be_length zero x = refl
be_length (suc n) x = ap suc (be_length n x)

pow_up : (n : ℕ) → 0 < 256 ^ n
pow_up n = one-le-pow n 256 (omega arith)

-- reading what was written
pub value_be : (n x : ℕ) → value (be n x) ≡ x % 256 ^ n
value_be zero x = sym (mod-one x)
value_be (suc n) x =
    let l = be_length n x in
    let r = value_be n x in
    let e : (x / 256 ^ n % 256) * 256 ^ length (be n x) + value (be n x) ≡ (x / 256 ^ n % 256) * 256 ^ n + x % 256 ^ n = cc in
    e ∙ sym (mod-mul x {m = 256} {c = 256 ^ n} (omega arith) (pow_up n)) ∙ ap (λ q. x % q) (sym (pow-succ' 256 n))

pub value_be_small : (n x : ℕ) → x < 256 ^ n → value (be n x) ≡ x
value_be_small n x h = value_be n x ∙ mod-eq_of_lt h

pub be_injective : (n x y : ℕ) → x < 256 ^ n → y < 256 ^ n → be n x ≡ be n y → x ≡ y
be_injective n x y p q e = sym (value_be_small n x p) ∙ ap value e ∙ value_be_small n y q

pub value_lt : (bs : List ℕ) → ((i : ℕ) → get_or bs i 0 < 256) → value bs < 256 ^ length bs
value_lt [] h = omega arith
value_lt (b ∷ bs) h = rw (pow-succ' 256 (length bs)) (digits_lt (h 0) (value_lt bs (λ i. h (suc i))))

-- what stands above the bytes does not change them
be_high : (n q x : ℕ) → be n (q * 256 ^ n + x) ≡ be n x
be_high zero q x = refl
be_high (suc n) q x =
    let e : q * 256 ^ suc n + x ≡ (q * 256) * 256 ^ n + x = ap (λ m. m + x) (ap (λ m. q * m) (pow-succ' 256 n) ∙ sym (mul_assoc q 256 (256 ^ n))) in
    let r = be_high n (q * 256) x in
    let d : ((q * 256) * 256 ^ n + x) / 256 ^ n ≡ q * 256 + x / 256 ^ n = mul-add-div_right (pow_up n) (q * 256) x in
    let m : (q * 256 + x / 256 ^ n) % 256 ≡ x / 256 ^ n % 256 = omega arith in
    cc

-- nor does a remainder
pub be_mod : (n x : ℕ) → be n (x % 256 ^ n) ≡ be n x
be_mod n x = sym (be_high n (x / 256 ^ n) (x % 256 ^ n)) ∙ ap (be n) (div-add-mod' x (256 ^ n))

-- writing what was read
pub be_value : (bs : List ℕ) → ((i : ℕ) → get_or bs i 0 < 256) → be (length bs) (value bs) ≡ bs
be_value [] h = refl
be_value (b ∷ bs) h =
    let d = digits_div b (value_lt bs (λ i. h (suc i))) in
    let m : b % 256 ≡ b = mod-eq_of_lt (h 0) in
    let r = be_high (length bs) b (value bs) in
    let s = be_value bs (λ i. h (suc i)) in
    cc

-- every one is a byte
pub be_bytes : (n x i : ℕ) → get_or (be n x) i 0 < 256
be_bytes zero x i = omega arith
be_bytes (suc n) x zero = omega arith
be_bytes (suc n) x (suc i) = be_bytes n x i
