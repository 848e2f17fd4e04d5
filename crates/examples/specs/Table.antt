-- The worked examples as rows of one table: each row is a test on the definitions, and holds.
-- The kind is single, the digest the rehearsal one.
use Rattle.std.specs.Prelude.{ℕ, ◌-◌, ◌^◌, Bool, false, not, ◌&&◌, List, [], ◌∷◌, ◌++◌, length, replicate, is_some, Some, None, Option, ◌==◌, slice_set}
use Rattle.std.specs.List.{list_all}
use Rattle.octets.specs.Tests.{same}
use Rattle.refusal.specs.Tables.{is_refusal}
use Rattle.amount.specs.Kinds.{join_refusal}
use Rattle.amount.specs.Rows.{single, purse}
use Rattle.digest.specs.Digests.{rehearsed, rehearsal}
use Rattle.node.specs.Texts.{Line, Node}
use Rattle.tree.specs.Trees.{node_at}
use Rattle.sheet.specs.Layout.{Sheet, sheet_bytes}
use Rattle.file.specs.Layout.{file_bytes, file_length}
use Rattle.verify.specs.Checks.{shape_refusal, check_refusal, leaf_place}
use Rattle.store.specs.Meaning.{Meaning}
use Rattle.audit.specs.Audits.{Texts, State, laid, Call, present, tally, Answer, counted_at, counted_before, tallied, refused, answer, next}

-- the largest amount
abbrev largest : List ℕ
largest = (2 ^ 63 - 1) ∷ []

-- a rehearsal digest that ends in a byte
abbrev ends_in : ℕ → List ℕ
ends_in b = replicate 31 0 ++ (b ∷ [])

abbrev is_node : Node → ℕ → ℕ → Bool
is_node n b amount = same n.digest (ends_in b) && same n.amount (amount ∷ [])

-- customer number 1, a salt of zeros, balance 5
abbrev first_line : Line
first_line = record { customer = replicate 15 0 ++ (1 ∷ []); salt = replicate 16 0; balance = 5 ∷ [] }

-- closing 7 at depth 1 with that line: its sheet, and the file of a leaf number
abbrev first_sheet : Sheet
first_sheet = record { closing = 7; depth = 1; root = node_at single rehearsal 7 (first_line ∷ []) 1 0 }

abbrev file_of_leaf : ℕ → List ℕ
file_of_leaf n = file_bytes single rehearsal 7 1 (record { leaf = n; line = first_line; steps = node_at single rehearsal 7 (first_line ∷ []) 0 1 ∷ [] })

abbrev first_sheet_bytes : List ℕ
first_sheet_bytes = sheet_bytes single rehearsal first_sheet

-- the same file with customer number 0 and first salt byte 01: the sum of its bytes is the same
abbrev twin_file : List ℕ
twin_file = slice_set (slice_set (file_of_leaf 0) 26 0) 27 1

-- an empty notebook: its node store with this room, and its leaf store with room for two
abbrev notebook : ℕ → ℕ → Meaning
notebook width room = record { width = width; first = 1; last = 9; bound = 4; find = λ (c p : ℕ). None; room = room }

abbrev answers : ℕ → State → Call → Answer
answers room = answer single rehearsal first_sheet (notebook 40 room) (notebook 45 2)

-- after presenting files, one after the other
abbrev presented : List (List ℕ) → State
presented [] = laid
presented (file ∷ files) = next single rehearsal first_sheet (notebook 40 2) (notebook 45 2) (presented files) (present file)

-- tests on answers: counted, or counted before, at a place; a tally; a refusal by its number
abbrev counts_at : ℕ → Answer → Bool
counts_at p (counted_at q) = p == q
counts_at p other = false

abbrev knows_at : ℕ → Answer → Bool
knows_at p (counted_before q) = p == q
knows_at p other = false

abbrev tallies : ℕ → ℕ → Answer → Bool
tallies amount n (tallied x m) = same x (amount ∷ []) && n == m
tallies amount n other = false

abbrev refuses : ℕ → Answer → Bool
refuses number (refused r) = is_refusal (Some r) number 0
refuses number other = false

-- two texts of 45 bytes each that differ and have one digest
abbrev collide : Option Texts → Bool
collide None = false
collide (Some t) = length t.stored == 45 && length t.offered == 45 && not (same t.stored t.offered) && same (rehearsed t.stored) (rehearsed t.offered)

abbrev pub rows : List Bool
rows =
    -- the largest amount joined with 0 is itself, and with 1 it cannot be written
    same (single.join largest (0 ∷ [])) largest
    ∷ single.writable largest
    ∷ is_refusal (join_refusal single largest (1 ∷ [])) 7 0
    -- the digest of ff 02 ends in 01, and that of the empty text is all zero
    ∷ same (rehearsed (0xff ∷ 0x02 ∷ [])) (ends_in 0x01)
    ∷ same (rehearsed []) (replicate 32 0)
    -- closing 7 at depth 0 with no line: the root
    ∷ is_node (node_at single rehearsal 7 [] 0 0) 0x09 0
    -- closing 7 at depth 1 with one line: the leaf, the padding, the root
    ∷ is_node (node_at single rehearsal 7 (first_line ∷ []) 0 0) 0x0d 5
    ∷ is_node (node_at single rehearsal 7 (first_line ∷ []) 0 1) 0x0a 0
    ∷ is_node (node_at single rehearsal 7 (first_line ∷ []) 1 0) 0x1d 5
    -- lengths of files: single at depth 0 and 1, purse at depth 20
    ∷ (file_length single.width 0 == 51)
    ∷ (file_length single.width 1 == 91)
    ∷ (file_length purse.width 20 == 1355)
    ∷ (length (file_of_leaf 0) == 91)
    -- at depth 1 leaf number 1 is in range, and 2 is not
    ∷ not (is_some (shape_refusal single rehearsal first_sheet (file_of_leaf 1)))
    ∷ is_refusal (shape_refusal single rehearsal first_sheet (file_of_leaf 2)) 20 0
    -- the first file passes under its sheet, at place 2; under a sheet of another closing it does not
    ∷ not (is_some (check_refusal single rehearsal first_sheet_bytes (file_of_leaf 0)))
    ∷ (leaf_place single first_sheet (file_of_leaf 0) == 2)
    ∷ is_refusal (check_refusal single rehearsal (slice_set first_sheet_bytes 6 8) (file_of_leaf 0)) 19 0
    ∷ []

-- the rows of the audit
abbrev pub audit_rows : List Bool
audit_rows =
    -- presented, the first file is counted at place 2, and the tally is 5 of one file; again, it was counted before
    counts_at 2 (answers 2 (presented []) (present (file_of_leaf 0)))
    ∷ tallies 5 1 (answers 2 (presented (file_of_leaf 0 ∷ [])) tally)
    ∷ knows_at 2 (answers 2 (presented (file_of_leaf 0 ∷ [])) (present (file_of_leaf 0)))
    -- then its twin passes the check, but shows two texts, and every later file is turned away
    ∷ not (is_some (check_refusal single rehearsal first_sheet_bytes twin_file))
    ∷ refuses 22 (answers 2 (presented (file_of_leaf 0 ∷ [])) (present twin_file))
    ∷ collide (presented (twin_file ∷ file_of_leaf 0 ∷ [])).shown
    ∷ refuses 23 (answers 2 (presented (twin_file ∷ file_of_leaf 0 ∷ [])) (present (file_of_leaf 0)))
    ∷ tallies 5 1 (answers 2 (presented (twin_file ∷ file_of_leaf 0 ∷ [])) tally)
    -- a node store with room for one record is full, with room for two it is not
    ∷ refuses 5 (answers 1 laid (present (file_of_leaf 0)))
    ∷ counts_at 2 (answers 2 laid (present (file_of_leaf 0)))
    ∷ []

-- every row holds
abbrev pub hold : List Bool → Bool
hold rows = list_all (λ row. row) rows
