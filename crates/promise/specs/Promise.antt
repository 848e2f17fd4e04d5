-- The whole promise of the audit, from a custodian's first call to an auditor's last.
use Rattle.std.specs.Prelude.{◌≡◌, ℕ, true, List, take, is_some, Some, None}
use Rattle.amount.specs.Kinds.{Kind, Laws, total}
use Rattle.digest.specs.Hashes.{Hash, HashLaws}
use Rattle.sheet.specs.Layout.{Sheet, read_sheet}
use Rattle.file.specs.Layout.{File}
use Rattle.store.specs.Meaning.{Meaning}
use Rattle.closing.specs.Closings.{State, new, stands, line_of, Call, Write, Issue, Wrote, after, answer}
use Rattle.closing.specs.Standings.{Lasts, Passes}
use Rattle.audit.specs.Audits as audits
use Rattle.audit.specs.Promise.{Among, AuditPromise}

module _ (k : Kind) (h : Hash) where
  -- these bytes are a sheet that was written in the standing of closing n: in state t or later, before it is withdrawn
  pub record SheetWritten (t : State) (n : ℕ) (sheet : List ℕ) : Type 0 where
    pub between : List Call
    pub lasts : Lasts n between
    pub buffer : List ℕ
    pub filled : List ℕ
    pub size : ℕ
    pub answered : answer k h (after k t between) (Write n buffer) ≡ Wrote size filled
    pub is : sheet ≡ take size filled

  -- these bytes are the file of a leaf that was issued in that standing
  pub record FileIssued (t : State) (n leaf : ℕ) (file : List ℕ) : Type 0 where
    pub between : List Call
    pub lasts : Lasts n between
    pub buffer : List ℕ
    pub filled : List ℕ
    pub size : ℕ
    pub answered : answer k h (after k t between) (Issue n leaf buffer) ≡ Wrote size filled
    pub is : file ≡ take size filled

  -- each presented file was issued in that standing
  abbrev pub OnlyIssued : State → ℕ → List audits.Call → Type 0
  OnlyIssued t n calls = (bytes : List ℕ) → Among (audits.present bytes) calls → (leaf : ℕ) × FileIssued t n leaf bytes

  -- each of its lines is counted, by its leaf number
  abbrev pub EveryLine : State → ℕ → List File → Type 0
  EveryLine t n counted = (leaf : ℕ) → is_some (line_of t n leaf) ≡ true → (g : File) × Among g counted × (g.leaf ≡ leaf)

  -- What a closing that stands in state t gives customers and auditors, under a sheet written in its standing.
  pub record StandingHonest (t : State) (n : ℕ) (sheet : List ℕ) : Type 0 where
    -- every file issued in the standing passes the customer's check, and is answered the place of its leaf
    pub passes : (leaf : ℕ) (file : List ℕ) → FileIssued t n leaf file → Passes k h sheet file leaf
    -- where that sheet is laid and only files issued in the standing are presented, no two texts are shown
    pub none_shown : (s : Sheet) → read_sheet k h sheet ≡ Some s → (nodes leaves : Meaning) (calls : List audits.Call) → OnlyIssued t n calls
        → (audits.after k h s nodes leaves audits.laid calls).shown ≡ None
    -- and once every line is counted the balances join to the total
    pub reaches_total : (s : Sheet) → read_sheet k h sheet ≡ Some s → (nodes leaves : Meaning) (calls : List audits.Call) → OnlyIssued t n calls
        → EveryLine t n (audits.after k h s nodes leaves audits.laid calls).counted
        → total k (audits.balances (audits.after k h s nodes leaves audits.laid calls).counted) ≡ s.root.amount

-- Of every kind of amount and every digest, whatever two stores hold, after every list of a new custodian's calls, for each
-- closing that stands then.
abbrev pub HonestCustodians : Type 0
HonestCustodians =
    (k : Kind) → Laws k → (h : Hash) → HashLaws h → (nodes leaves : Meaning) (calls : List Call) (n : ℕ)
    → is_some (stands n (after k (new nodes leaves) calls).standing) ≡ true
    → (sheet : List ℕ) → SheetWritten k h (after k (new nodes leaves) calls) n sheet → StandingHonest k h (after k (new nodes leaves) calls) n sheet

-- The promise: whoever made the files, the tally stays under the total, and nobody who passes is left out unless two texts
-- with one digest are shown; and honest closings pass and reach their total.
pub record Promise : Type 0 where
  pub whoever_made_the_files : AuditPromise
  pub honest_closings : HonestCustodians
