-- What a kind of amount is. An amount means a list of `count` whole numbers.
use Rattle.std.specs.Prelude.{◌≡◌, ℕ, ◌≤◌, Bool, not, T, List, [], ◌∷◌, length, is_some, Some, Option, nat_lt}
use Rattle.refusal.specs.declared.cases.Refusal.{Refusal}
use Rattle.refusal.specs.declared.cases.Refusal.TheVariants.{BadAmount, JoinUnwritable, BufferTooShort}
use Rattle.refusal.specs.Tables.{◌⇒◌, first}

pub record Kind : Type 0 where
  -- its number in sheets and files
  pub number : ℕ
  -- how many numbers a meaning has
  pub count : ℕ
  -- how many bytes an amount is written in
  pub width : ℕ
  -- the meanings that amounts have
  pub writable : List ℕ → Bool
  pub zero : List ℕ
  pub join : List ℕ → List ℕ → List ℕ
  pub under : List ℕ → List ℕ → Bool
  -- the bytes of a meaning, and the meaning that bytes have
  pub bytes : List ℕ → List ℕ
  pub read : List ℕ → Option (List ℕ)

-- All that may be used of a kind.
pub record Laws (k : Kind) : Type 0 where
  pub number_small : k.number ≤ 255
  pub width_low : 1 ≤ k.width
  pub width_high : k.width ≤ 80
  pub writable_count : (x : List ℕ) → T (k.writable x) → length x ≡ k.count
  pub join_count : (x y : List ℕ) → length x ≡ k.count → length y ≡ k.count → length (k.join x y) ≡ k.count
  pub zero_writable : T (k.writable k.zero)
  pub zero_neutral : (x : List ℕ) → length x ≡ k.count → k.join k.zero x ≡ x
  pub zero_under : (x : List ℕ) → length x ≡ k.count → T (k.under k.zero x)
  pub join_comm : (x y : List ℕ) → k.join x y ≡ k.join y x
  pub join_assoc : (x y z : List ℕ) → k.join (k.join x y) z ≡ k.join x (k.join y z)
  pub under_refl : (x : List ℕ) → T (k.under x x)
  pub under_trans : (x y z : List ℕ) → T (k.under x y) → T (k.under y z) → T (k.under x z)
  -- joining on either side keeps the order: on the left by commutativity
  pub under_join : (x y z : List ℕ) → T (k.under x y) → T (k.under (k.join x z) (k.join y z))
  pub under_writable : (x y : List ℕ) → T (k.under x y) → T (k.writable y) → T (k.writable x)
  pub bytes_width : (x : List ℕ) → T (k.writable x) → length (k.bytes x) ≡ k.width
  pub bytes_injective : (x y : List ℕ) → T (k.writable x) → T (k.writable y) → k.bytes x ≡ k.bytes y → x ≡ y
  -- reading gives the meaning whose bytes these are, where there is one
  pub read_bytes : (x : List ℕ) → T (k.writable x) → k.read (k.bytes x) ≡ Some x
  pub read_only : (s x : List ℕ) → k.read s ≡ Some x → T (k.writable x) × (k.bytes x ≡ s)

-- all of them joined
abbrev pub total : Kind → List (List ℕ) → List ℕ
total k [] = k.zero
total k (x ∷ xs) = k.join x (total k xs)

-- when joining, reading and writing are refused
abbrev pub join_refusal : Kind → List ℕ → List ℕ → Option Refusal
join_refusal k x y = first ((not (k.writable (k.join x y)) ⇒ JoinUnwritable 0) ∷ [])

abbrev pub read_refusal : Kind → List ℕ → Option Refusal
read_refusal k s = first ((not (is_some (k.read s)) ⇒ BadAmount 0) ∷ [])

abbrev pub write_refusal : Kind → List ℕ → Option Refusal
write_refusal k buffer = first ((nat_lt (length buffer) k.width ⇒ BufferTooShort) ∷ [])
