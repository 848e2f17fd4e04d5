-- What a digest is: a number, and one fixed function from texts to 32 bytes.
use Rattle.std.specs.Prelude.{◌≡◌, ℕ, ◌<◌, ◌≤◌, List, [], ◌∷◌, length, Option, nat_lt, slice_index}
use Rattle.refusal.specs.declared.cases.Refusal.{Refusal}
use Rattle.refusal.specs.declared.cases.Refusal.TheVariants.{TextTooLong}
use Rattle.refusal.specs.Tables.{◌⇒◌, first}

pub record Hash : Type 0 where
  -- its number in sheets and files
  pub number : ℕ
  -- the digest of a text
  pub of : List ℕ → List ℕ

-- All that may be used of a digest.
pub record HashLaws (h : Hash) : Type 0 where
  pub number_small : h.number ≤ 255
  pub of_length : (text : List ℕ) → length (h.of text) ≡ 32
  pub of_bytes : (text : List ℕ) (i : ℕ) → slice_index (h.of text) i < 256

-- when a text is refused
abbrev pub too_long : List ℕ → Option Refusal
too_long text = first ((nat_lt 65536 (length text) ⇒ TextTooLong) ∷ [])
