-- The customer's check: when a file is refused under a sheet.
use Rattle.std.specs.Prelude.{ℕ, zero, suc, ◌+◌, ◌^◌, cond, not, List, [], ◌∷◌, length, take, drop, is_some, Some, None, Option, ◌==◌, nat_le, nat_lt}
use Rattle.octets.specs.Tests.{same}
use Rattle.refusal.specs.declared.cases.Refusal.{Refusal}
use Rattle.refusal.specs.declared.cases.Refusal.TheVariants.{BadLimits, FileLength, OtherSheet, LeafOutside, BadAmount, JoinUnwritable, RootDiffers}
use Rattle.refusal.specs.Tables.{◌⇒◌, first}
use Rattle.amount.specs.Kinds.{Kind}
use Rattle.digest.specs.Hashes.{Hash}
use Rattle.node.specs.Texts.{node_bytes}
use Rattle.sheet.specs.Layout.{Sheet, head, sheet_refusal, read_sheet}
use Rattle.file.specs.Layout.{File, file_length}
use Rattle.file.specs.Fields.{offset_at, step_index, field_bytes}
use Rattle.verify.specs.Paths.{file_of, path_node}

-- the first of two refusals
abbrev pub or_else : Option Refusal → Option Refusal → Option Refusal
or_else None later = later
or_else (Some r) later = Some r

-- length, first seven bytes, leaf number
abbrev pub shape_refusal : Kind → Hash → Sheet → List ℕ → Option Refusal
shape_refusal k h s file = first (
    (not (length file == file_length k.width s.depth) ⇒ FileLength)
    ∷ (not (same (take 7 file) (head k h s.closing s.depth)) ⇒ OtherSheet)
    ∷ (nat_le (2 ^ s.depth) (file_of k s.depth file).leaf ⇒ LeafOutside)
    ∷ [])

-- a step whose amount is not one
abbrev pub step_refusal : Kind → List ℕ → ℕ → Option Refusal
step_refusal k file i = cond (is_some (k.read (drop 32 (field_bytes k.width file i)))) None (Some (BadAmount (offset_at k.width i + 32)))

-- a field whose amount is not one: the balance, or that of a step
abbrev pub field_refusal : Kind → List ℕ → ℕ → Option Refusal
field_refusal k file zero = None
field_refusal k file (suc zero) = None
field_refusal k file (suc (suc zero)) = None
field_refusal k file (suc (suc (suc zero))) = cond (is_some (k.read (field_bytes k.width file 3))) None (Some (BadAmount 43))
field_refusal k file (suc (suc (suc (suc j)))) = step_refusal k file (step_index j)

-- the first refusal of as many fields, from field i on
abbrev pub first_from : (ℕ → Option Refusal) → ℕ → ℕ → Option Refusal
first_from refusal zero i = None
first_from refusal (suc more) i = or_else (refusal i) (first_from refusal more (suc i))

-- every amount in file order
abbrev pub amounts_refusal : Kind → ℕ → List ℕ → Option Refusal
amounts_refusal k depth file = first_from (field_refusal k file) (4 + depth) 0

-- a step that the path's node cannot be joined with
abbrev pub join_refusal_at : Kind → Hash → ℕ → File → ℕ → Option Refusal
join_refusal_at k h closing f zero = None
join_refusal_at k h closing f (suc zero) = None
join_refusal_at k h closing f (suc (suc zero)) = None
join_refusal_at k h closing f (suc (suc (suc zero))) = None
join_refusal_at k h closing f (suc (suc (suc (suc j)))) =
    cond (k.writable (path_node k h closing f (suc j)).amount) None (Some (JoinUnwritable (offset_at k.width (step_index j))))

-- every joint amount from the leaf up
abbrev pub joins_refusal : Kind → Hash → ℕ → ℕ → File → Option Refusal
joins_refusal k h closing depth f = first_from (join_refusal_at k h closing f) (4 + depth) 0

-- the top of the path, and whether it is the sheet's digest and total
abbrev pub top_refusal : Kind → Hash → Sheet → File → Option Refusal
top_refusal k h s f = first ((not (same (node_bytes k (path_node k h s.closing f s.depth)) (node_bytes k s.root)) ⇒ RootDiffers) ∷ [])

abbrev pub file_refusal : Kind → Hash → Sheet → List ℕ → Option Refusal
file_refusal k h s file =
    or_else (shape_refusal k h s file)
    (or_else (amounts_refusal k s.depth file)
    (or_else (joins_refusal k h s.closing s.depth (file_of k s.depth file))
    (top_refusal k h s (file_of k s.depth file))))

-- the place that a passing check answers
abbrev pub leaf_place : Kind → Sheet → List ℕ → ℕ
leaf_place k s file = 2 ^ s.depth + (file_of k s.depth file).leaf

-- a sheet in hand: its depth, then the file
abbrev pub under_refusal : Kind → Hash → Sheet → List ℕ → Option Refusal
under_refusal k h s file = or_else (first ((nat_lt 20 s.depth ⇒ BadLimits) ∷ [])) (file_refusal k h s file)

-- a sheet and a file as bytes
abbrev pub under : Kind → Hash → Option Sheet → List ℕ → Option Refusal
under k h None file = None
under k h (Some s) file = under_refusal k h s file

abbrev pub check_refusal : Kind → Hash → List ℕ → List ℕ → Option Refusal
check_refusal k h sheet file = or_else (sheet_refusal k h sheet) (under k h (read_sheet k h sheet) file)
