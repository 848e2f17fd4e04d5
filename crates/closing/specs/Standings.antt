-- What holds over every list of a new custodian's calls.
use Rattle.std.specs.Prelude.{◌≡◌, ℕ, ◌+◌, ◌^◌, ◌≤◌, List, length, take, Some, None, ◌≢◌}
use Rattle.std.specs.List.{AllByRecursion}
use Rattle.amount.specs.Kinds.{Kind, Laws}
use Rattle.digest.specs.Hashes.{Hash, HashLaws}
use Rattle.sheet.specs.Layout.{Sheet, read_sheet}
use Rattle.verify.specs.Checks.{check_refusal, leaf_place}
use Rattle.store.specs.Meaning.{Meaning}
use Rattle.closing.specs.Closings.{State, new, Call, Withdraw, Write, Issue, Wrote, after, answer}

-- closing n is not withdrawn in these calls
abbrev pub Lasts : ℕ → List Call → Type 0
Lasts n calls = AllByRecursion (λ (c : Call). c ≢ Withdraw n) calls

module _ (k : Kind) (h : Hash) where
  -- the customer's check passes, and answers the place of the leaf
  pub record Passes (sheet file : List ℕ) (leaf : ℕ) : Type 0 where
    pub unrefused : check_refusal k h sheet file ≡ None
    pub place_is : (s : Sheet) → read_sheet k h sheet ≡ Some s → leaf_place k s file ≡ 2 ^ s.depth + leaf

  -- After some calls, two more of which the second comes in the same standing of closing n as the first.
  pub record StandingHolds (s : State) (n : ℕ) : Type 0 where
    -- a sheet is written, and later a file is issued
    pub sheet_then_file : (before after_sheet : List ℕ) (size : ℕ) → answer k h s (Write n before) ≡ Wrote size after_sheet
        → (between : List Call) → Lasts n between
        → (leaf : ℕ) (buffer after_file : List ℕ) (long : ℕ) → answer k h (after k s between) (Issue n leaf buffer) ≡ Wrote long after_file
        → Passes (take size after_sheet) (take long after_file) leaf
    -- a file is issued, and later a sheet is written
    pub file_then_sheet : (leaf : ℕ) (buffer after_file : List ℕ) (long : ℕ) → answer k h s (Issue n leaf buffer) ≡ Wrote long after_file
        → (between : List Call) → Lasts n between
        → (before after_sheet : List ℕ) (size : ℕ) → answer k h (after k s between) (Write n before) ≡ Wrote size after_sheet
        → Passes (take size after_sheet) (take long after_file) leaf
    -- a sheet is written twice
    pub one_sheet : (b₁ b₂ a₁ a₂ : List ℕ) (m₁ m₂ : ℕ) (between : List Call) → Lasts n between
        → answer k h s (Write n b₁) ≡ Wrote m₁ a₁ → answer k h (after k s between) (Write n b₂) ≡ Wrote m₂ a₂ → take m₁ a₁ ≡ take m₂ a₂

-- Over every kind of amount, every digest and whatever two stores hold, after every list of a new custodian's calls: every
-- file issued in a standing passes the customer's check under the sheet written in it, and at most eight closings stand.
abbrev pub StandingsHold : Type 0
StandingsHold = (k : Kind) → Laws k → (h : Hash) → HashLaws h → (nodes leaves : Meaning) (calls : List Call)
    → (length (after k (new nodes leaves) calls).standing ≤ 8) × ((n : ℕ) → StandingHolds k h (after k (new nodes leaves) calls) n)
