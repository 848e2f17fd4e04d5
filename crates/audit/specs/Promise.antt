-- What the audit promises.
use Rattle.std.specs.Prelude.{◌≡◌, ℕ, ◌+◌, ◌<◌, T, ◌⊎◌, List, [], ◌∷◌, ◌++◌, length, Some, None, ◌≢◌}
use Rattle.std.specs.List.{slice_get}
use Rattle.refusal.specs.declared.cases.Refusal.TheVariants.{TwoTexts, Full}
use Rattle.amount.specs.Kinds.{Kind, Laws, total}
use Rattle.digest.specs.Hashes.{Hash, HashLaws}
use Rattle.node.specs.Texts.{Line}
use Rattle.sheet.specs.Layout.{Sheet, sheet_refusal, read_sheet}
use Rattle.file.specs.Layout.{File, file_bytes}
use Rattle.file.specs.Ledgers.{Ledger, ledger_sheet, line_file}
use Rattle.verify.specs.Paths.{file_of}
use Rattle.verify.specs.Checks.{under_refusal, leaf_place}
use Rattle.store.specs.Meaning.{Meaning}
use Rattle.audit.specs.Audits.{Texts, State, laid, Call, present, tally, Answer, counted_at, counted_before, tallied, refused, balances, place_at, new_nodes, used_nodes, answer, next, after}

abbrev pub Among : {X : Type 0} → X → List X → Type 0
Among x [] = ⊥
Among x (y ∷ ys) = (x ≡ y) ⊎ Among x ys

-- two texts that the digest does not tell apart
pub record Collision (h : Hash) (t : Texts) : Type 0 where
  pub differ : t.stored ≡ t.offered → ⊥
  pub one_digest : h.of t.stored ≡ h.of t.offered

module _ (k : Kind) (h : Hash) (s : Sheet) where
  -- no two of the files have one leaf place
  abbrev pub OneEach : List File → Type 0
  OneEach [] = Unit {0}
  OneEach (f ∷ fs) = ((g : File) → Among g fs → place_at k h s f 0 ≢ place_at k h s g 0) × OneEach fs

  -- a counted file was presented, and passes the customer's check under the laid sheet
  pub record WasPresented (calls : List Call) (f : File) : Type 0 where
    pub bytes : List ℕ
    pub among : Among (present bytes) calls
    pub passes : under_refusal k h s bytes ≡ None
    pub is : f ≡ file_of k s.depth bytes

  -- the stores right after laying
  module _ (nodes leaves : Meaning) where
    -- The tally: the counted balances, one for each place, join to an amount under the sheet's total.
    pub record TallyHolds (calls : List Call) (a : State) : Type 0 where
      pub were_presented : (f : File) → Among f a.counted → WasPresented calls f
      pub one_each : OneEach a.counted
      pub told : answer k h s nodes leaves a tally ≡ tallied (total k (balances a.counted)) (length a.counted)
      pub under_total : T (k.under (total k (balances a.counted)) s.root.amount)
      pub writable : T (k.writable (total k (balances a.counted)))

    -- What a file that passes is answered while no two texts are shown.
    pub data Settled (a : State) (bytes : List ℕ) : Answer → Type 0 where
      collides : (t : Texts) → (next k h s nodes leaves a (present bytes)).shown ≡ Some t → Collision h t → Settled a bytes (refused TwoTexts)
      was_counted : Among (file_of k s.depth bytes) a.counted → Settled a bytes (counted_before (leaf_place k s bytes))
      no_room : (nodes.room < used_nodes k h s a.counted + new_nodes k h s a.counted (file_of k s.depth bytes)) ⊎ (leaves.room < length a.counted + 1) → Settled a bytes (refused Full)
      is_counted : (next k h s nodes leaves a (present bytes)).counted ≡ file_of k s.depth bytes ∷ a.counted → Settled a bytes (counted_at (leaf_place k s bytes))

    -- Only presenting a file makes a place counted.
    pub data Counting (a : State) : Call → Type 0 where
      adds : (bytes : List ℕ) → answer k h s nodes leaves a (present bytes) ≡ counted_at (leaf_place k s bytes) → (next k h s nodes leaves a (present bytes)).counted ≡ file_of k s.depth bytes ∷ a.counted → Counting a (present bytes)
      keeps : (c : Call) → (next k h s nodes leaves a c).counted ≡ a.counted → Counting a c

    -- After every list of calls since the sheet was laid.
    pub record HoldsAfter (calls : List Call) (a : State) : Type 0 where
      pub tally_holds : TallyHolds calls a
      pub settled : a.shown ≡ None → (bytes : List ℕ) → under_refusal k h s bytes ≡ None → Settled a bytes (answer k h s nodes leaves a (present bytes))
      pub texts_collide : (t : Texts) → a.shown ≡ Some t → Collision h t
      pub counting : (c : Call) → Counting a c
      -- a file that passed before, and was not refused for want of room, is counted, as long as no two texts are shown
      pub none_left_out : a.shown ≡ None → (before later : List Call) (bytes : List ℕ) → calls ≡ before ++ (present bytes ∷ later) → under_refusal k h s bytes ≡ None
          → (answer k h s nodes leaves (after k h s nodes leaves laid before) (present bytes) ≢ refused Full) → Among (file_of k s.depth bytes) a.counted

-- The sheet was read from bytes.
pub record WasRead (k : Kind) (h : Hash) (s : Sheet) : Type 0 where
  pub bytes : List ℕ
  pub unrefused : sheet_refusal k h bytes ≡ None
  pub is : read_sheet k h bytes ≡ Some s

-- The audit's promise: of every kind of amount, every digest, every sheet, every two stores and every list of calls.
abbrev pub AuditPromise : Type 0
AuditPromise =
    (k : Kind) → Laws k → (h : Hash) → HashLaws h → (s : Sheet) → WasRead k h s → (nodes leaves : Meaning) (calls : List Call) →
    HoldsAfter k h s nodes leaves calls (after k h s nodes leaves laid calls)

module _ (k : Kind) (h : Hash) (closing depth : ℕ) (lines : List Line) where
  -- each presented file is that of a line of the ledger
  abbrev pub OnlyLines : List Call → Type 0
  OnlyLines calls =
      (bytes : List ℕ) → Among (present bytes) calls →
      (n : ℕ) × (l : Line) × (slice_get lines n ≡ Some l) × (bytes ≡ file_bytes k h closing depth (line_file k h closing lines depth n l))

  -- What holds where only files of one ledger are presented: no two texts, and once every line is counted the tally is the total.
  pub record Agrees (a : State) : Type 0 where
    pub none_shown : a.shown ≡ None
    pub reaches_total : ((n : ℕ) (l : Line) → slice_get lines n ≡ Some l → Among (line_file k h closing lines depth n l) a.counted)
        → total k (balances a.counted) ≡ (ledger_sheet k h closing lines depth).root.amount

-- The honest half: of every ledger, whose own sheet is laid.
abbrev pub HonestAudit : Type 0
HonestAudit =
    (k : Kind) → Laws k → (h : Hash) → HashLaws h → (closing depth : ℕ) (lines : List Line) → Ledger k closing depth lines →
    (nodes leaves : Meaning) (calls : List Call) → OnlyLines k h closing depth lines calls →
    Agrees k h closing depth lines (after k h (ledger_sheet k h closing lines depth) nodes leaves laid calls)
