-- The kinds made of rows of numbers keep the laws.
use Rattle.std.proofs.Common.{◌≡◌, ℕ, zero, suc, ◌+◌, ◌*◌, ◌^◌, ◌<◌, ◌≤◌, Bool, true, false, cond, ◌&&◌, T, eqb, leb, List, [], ◌∷◌, ◌++◌, length, take, drop, get_or, replicate, Some, None, Option, sym, refl, ap, ◌∙◌, subst, add_assoc, add_comm, zero-add, arith, le→leb, eqb→eq, ltb→lt, lt→ltb, leb→le, length-drop, take-append-drop}
use Rattle.std.proofs.lemmas.List.{length-replicate, length-take-le, get_or-drop}
use Rattle.octets.specs.BigEndian.{be, value}
use Rattle.std.specs.List.{list_all, AllByRecursion}
use Rattle.octets.specs.Tests.{same}
use Rattle.octets.proofs.Numbers.{value_be_small, be_value}
use Rattle.octets.proofs.Passes.{both_in, both_out, eqb_in, same_refl, same_out, true_T, false_T}
use Rattle.amount.specs.Kinds.{Laws}
use Rattle.amount.specs.Rows.{plus, at_most, small, writable, bytes, numbers, read, rows, Allowed, single, purse}

abbrev pub Small : ℕ → Type 0
Small x = x < 2 ^ 63

small_in : (m : List ℕ) → AllByRecursion Small m → T (list_all small m)
small_in [] h = tt
small_in (x ∷ m) h = both_in (small x) (list_all small m) (lt→ltb x (2 ^ 63) h.0) (small_in m h.1)

small_out : (m : List ℕ) → T (list_all small m) → AllByRecursion Small m
small_out [] h = tt
small_out (x ∷ m) h = let p = both_out (small x) (list_all small m) h in (ltb→lt x (2 ^ 63) p.0, small_out m p.1)

pub writable_in : (count : ℕ) (m : List ℕ) → (length m ≡ count) × AllByRecursion Small m → T (writable count m)
writable_in count m h = both_in (eqb (length m) count) (list_all small m) (eqb_in (length m) count h.0) (small_in m h.1)

pub writable_out : (count : ℕ) (m : List ℕ) → T (writable count m) → (length m ≡ count) × AllByRecursion Small m
writable_out count m h = let p = both_out (eqb (length m) count) (list_all small m) h in (eqb→eq (length m) count p.0, small_out m p.1)

plus_comm : (x y : List ℕ) → plus x y ≡ plus y x
plus_comm [] [] = refl
plus_comm [] (b ∷ y) = refl
plus_comm (a ∷ x) [] = refl
plus_comm (a ∷ x) (b ∷ y) = let e = add_comm a b in let r = plus_comm x y in cc

plus_assoc : (x y z : List ℕ) → plus (plus x y) z ≡ plus x (plus y z)
plus_assoc [] y z = refl
plus_assoc (a ∷ x) [] z = refl
plus_assoc (a ∷ x) (b ∷ y) [] = refl
plus_assoc (a ∷ x) (b ∷ y) (c ∷ z) = let e = add_assoc a b c in let r = plus_assoc x y z in cc

plus_length : (n : ℕ) (x y : List ℕ) → length x ≡ n → length y ≡ n → length (plus x y) ≡ n
plus_length n [] y p q = p
plus_length n (a ∷ x) [] p q = q
plus_length zero (a ∷ x) (b ∷ y) p q = omega arith
plus_length (suc n) (a ∷ x) (b ∷ y) p q = ap suc (plus_length n x y (omega arith) (omega arith))

plus_zero : (n : ℕ) (x : List ℕ) → length x ≡ n → plus (replicate n 0) x ≡ x
plus_zero zero [] p = refl
plus_zero zero (a ∷ x) p = absurd (omega arith)
plus_zero (suc n) [] p = absurd (omega arith)
plus_zero (suc n) (a ∷ x) p = let e = zero-add a in let r = plus_zero n x (omega arith) in cc

zero_small : (n : ℕ) → AllByRecursion Small (replicate n 0)
zero_small zero = tt
zero_small (suc n) = (omega arith, zero_small n)

-- the order, as facts
abbrev AtMost : List ℕ → List ℕ → Type 0
AtMost [] [] = Unit {0}
AtMost [] (y ∷ ys) = ⊥
AtMost (x ∷ xs) [] = ⊥
AtMost (x ∷ xs) (y ∷ ys) = (x ≤ y) × AtMost xs ys

most_in : (x y : List ℕ) → AtMost x y → T (at_most x y)
most_in [] [] h = tt
most_in [] (b ∷ y) h = h
most_in (a ∷ x) [] h = h
most_in (a ∷ x) (b ∷ y) h = both_in (leb a b) (at_most x y) (le→leb a b h.0) (most_in x y h.1)

most_out : (x y : List ℕ) → T (at_most x y) → AtMost x y
most_out [] [] h = tt
most_out [] (b ∷ y) h = h
most_out (a ∷ x) [] h = h
most_out (a ∷ x) (b ∷ y) h = let p = both_out (leb a b) (at_most x y) h in (leb→le a b p.0, most_out x y p.1)

most_zero : (n : ℕ) (x : List ℕ) → length x ≡ n → AtMost (replicate n 0) x
most_zero zero [] p = tt
most_zero zero (a ∷ x) p = absurd (omega arith)
most_zero (suc n) [] p = absurd (omega arith)
most_zero (suc n) (a ∷ x) p = (omega arith, most_zero n x (omega arith))

most_refl : (x : List ℕ) → AtMost x x
most_refl [] = tt
most_refl (a ∷ x) = (omega arith, most_refl x)

most_trans : (x y z : List ℕ) → AtMost x y → AtMost y z → AtMost x z
most_trans [] [] z p q = q
most_trans [] (b ∷ y) z p q = absurd p
most_trans (a ∷ x) [] z p q = absurd p
most_trans (a ∷ x) (b ∷ y) [] p q = absurd q
most_trans (a ∷ x) (b ∷ y) (c ∷ z) p q = (omega arith, most_trans x y z p.1 q.1)

most_plus : (x y z : List ℕ) → AtMost x y → AtMost (plus x z) (plus y z)
most_plus [] [] z p = tt
most_plus [] (b ∷ y) z p = absurd p
most_plus (a ∷ x) [] z p = absurd p
most_plus (a ∷ x) (b ∷ y) [] p = tt
most_plus (a ∷ x) (b ∷ y) (c ∷ z) p = (omega arith, most_plus x y z p.1)

most_small : (x y : List ℕ) → AtMost x y → AllByRecursion Small y → AllByRecursion Small x
most_small [] [] p q = tt
most_small [] (b ∷ y) p q = absurd p
most_small (a ∷ x) [] p q = absurd p
most_small (a ∷ x) (b ∷ y) p q = (omega arith, most_small x y p.1 q.1)

most_length : (x y : List ℕ) → AtMost x y → length x ≡ length y
most_length [] [] p = refl
most_length [] (b ∷ y) p = absurd p
most_length (a ∷ x) [] p = absurd p
most_length (a ∷ x) (b ∷ y) p = ap suc (most_length x y p.1)

pub bytes_length : (x : List ℕ) → length (bytes x) ≡ 8 * length x
bytes_length [] = refl
bytes_length (a ∷ x) = let r = bytes_length x in omega arith

-- reading what was written
numbers_bytes : (n : ℕ) (x : List ℕ) → length x ≡ n → AllByRecursion Small x → numbers n (bytes x) ≡ x
numbers_bytes zero [] p h = refl
numbers_bytes zero (a ∷ x) p h = absurd (omega arith)
numbers_bytes (suc n) [] p h = absurd (omega arith)
numbers_bytes (suc n) (a ∷ x) p h =
    let a8 : value (be 8 a) ≡ a = value_be_small 8 a (omega arith) in
    let r = numbers_bytes n x (omega arith) h.1 in
    cc

read_all : (count : ℕ) (x : List ℕ) → T (writable count x) → read count (bytes x) ≡ Some x
read_all count x w =
    let o = writable_out count x w in
    let e : numbers count (bytes x) ≡ x = numbers_bytes count x o.0 o.1 in
    let t : T (writable count x && same (bytes x) (bytes x)) = both_in (writable count x) (same (bytes x) (bytes x)) w (same_refl (bytes x)) in
    ap (λ m. cond (writable count m && same (bytes m) (bytes x)) (Some m) None) e
    ∙ ap (λ b. cond b (Some x) None) (true_T (writable count x && same (bytes x) (bytes x)) t)

taken : (b : Bool) (m x : List ℕ) → cond b (Some m) None ≡ Some x → T b × (m ≡ x)
taken true m x e = (tt, cc)
taken false m x e = absurd (let z : ◌≡◌ {A = ℕ} 0 1 = cc in omega arith)

read_some : (count : ℕ) (s x : List ℕ) → read count s ≡ Some x → T (writable count x) × (bytes x ≡ s)
read_some count s x e =
    let m = numbers count s in
    let p = taken (writable count m && same (bytes m) s) m x e in
    let q = both_out (writable count m) (same (bytes m) s) p.0 in
    (subst (λ y. T (writable count y)) p.1 q.0, subst (λ y. bytes y ≡ s) p.1 (same_out (bytes m) s q.1))

some_inj : (x y : List ℕ) → ◌≡◌ {A = Option (List ℕ)} (Some x) (Some y) → x ≡ y
some_inj x y e = cc

pub rows_laws : (number count : ℕ) → Allowed number count → Laws (rows number count)
rows_laws number count a = record {
  number_small = a.0;
  width_low = let l = a.1 in omega arith;
  width_high = let m = a.2 in omega arith;
  writable_count = λ x h. (writable_out count x h).0;
  join_count = plus_length count;
  zero_writable = writable_in count (replicate count 0) (length-replicate count 0, zero_small count);
  zero_neutral = plus_zero count;
  zero_under = λ x h. most_in (replicate count 0) x (most_zero count x h);
  join_comm = plus_comm;
  join_assoc = plus_assoc;
  under_refl = λ x. most_in x x (most_refl x);
  under_trans = λ x y z p q. most_in x z (most_trans x y z (most_out x y p) (most_out y z q));
  under_join = λ x y z p. most_in (plus x z) (plus y z) (most_plus x y z (most_out x y p));
  under_writable = λ x y u h.
      let v = most_out x y u in
      let w = writable_out count y h in
      writable_in count x (most_length x y v ∙ w.0, most_small x y v w.1);
  bytes_width = λ x h. bytes_length x ∙ ap (λ n. 8 * n) (writable_out count x h).0;
  bytes_injective = λ x y p q e. some_inj x y (sym (read_all count x p) ∙ ap (read count) e ∙ read_all count y q);
  read_bytes = read_all count;
  read_only = read_some count;
}

pub single_allowed : Allowed 1 1
single_allowed = (omega arith, omega arith, omega arith)

pub purse_allowed : Allowed 2 4
purse_allowed = (omega arith, omega arith, omega arith)

pub single_laws : Laws single
single_laws = rows_laws 1 1 single_allowed

pub purse_laws : Laws purse
purse_laws = rows_laws 2 4 purse_allowed

-- a writable row is as long as its kind says, and has small numbers only
pub row_writable : (count : ℕ) (m : List ℕ) → length m ≡ count → list_all small m ≡ true → T (writable count m)
row_writable count m l s = both_in (eqb (length m) count) (list_all small m) (eqb_in (length m) count l) (subst T (sym s) tt)

pub row_parts : (count : ℕ) (m : List ℕ) → T (writable count m) → (length m ≡ count) × (list_all small m ≡ true)
row_parts count m w =
    let p = both_out (eqb (length m) count) (list_all small m) w in
    (eqb→eq (length m) count p.0, true_T (list_all small m) p.1)

pub numbers_length : (n : ℕ) (s : List ℕ) → length (numbers n s) ≡ n
numbers_length zero s = refl
numbers_length (suc n) s = ap suc (numbers_length n (drop 8 s))

front_byte : (n : ℕ) (s : List ℕ) → ((i : ℕ) → get_or s i 0 < 256) → (i : ℕ) → get_or (take n s) i 0 < 256
front_byte zero s h i = omega arith
front_byte (suc n) [] h i = omega arith
front_byte (suc n) (x ∷ s) h zero = h 0
front_byte (suc n) (x ∷ s) h (suc i) = front_byte n s (λ j. h (suc j)) i

-- the bytes of the numbers that bytes write
pub bytes_numbers : (n : ℕ) (s : List ℕ) → length s ≡ 8 * n → ((i : ℕ) → get_or s i 0 < 256) → bytes (numbers n s) ≡ s
bytes_numbers zero [] l h = refl
bytes_numbers zero (a ∷ s) l h = absurd (omega arith)
bytes_numbers (suc n) s l h =
    let t : length (take 8 s) ≡ 8 = length-take-le 8 s (omega arith) in
    let d : length (drop 8 s) ≡ 8 * n = length-drop 8 s ∙ omega arith in
    let p : be 8 (value (take 8 s)) ≡ take 8 s = ap (λ k. be k (value (take 8 s))) (sym t) ∙ be_value (take 8 s) (front_byte 8 s h) in
    let q : bytes (numbers n (drop 8 s)) ≡ drop 8 s = bytes_numbers n (drop 8 s) d (λ i. subst (λ v. v < 256) (sym (get_or-drop 8 s i 0)) (h (8 + i))) in
    ap (λ b. b ++ bytes (numbers n (drop 8 s))) p ∙ ap (λ b. take 8 s ++ b) q ∙ take-append-drop 8 s

-- what is read of bytes as long as the kind's: their numbers, where they are small
module _ (n : ℕ) (s : List ℕ) (l : length s ≡ 8 * n) (h : (i : ℕ) → get_or s i 0 < 256) where
  pub small_read : list_all small (numbers n s) ≡ true → read n s ≡ Some (numbers n s)
  small_read e =
      let m = numbers n s in
      ap (λ b. cond b (Some m) None) (true_T (writable n m && same (bytes m) s) (both_in (writable n m) (same (bytes m) s)
      (row_writable n m (numbers_length n s) e) (subst (λ t. T (same t s)) (sym (bytes_numbers n s l h)) (same_refl s))))

  pub large_unread : list_all small (numbers n s) ≡ false → read n s ≡ None
  large_unread e =
      let m = numbers n s in
      ap (λ b. cond b (Some m) None) (false_T (writable n m && same (bytes m) s) (λ w.
      let p = row_parts n m (both_out (writable n m) (same (bytes m) s) w).0 in
      let f : false ≡ true = sym e ∙ p.1 in
      let z : ◌≡◌ {A = ℕ} 0 1 = cc in omega arith))
