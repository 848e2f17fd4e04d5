-- What an auditor answers from a sheet just laid to the next: by the laid sheet, the calls, and the meanings of the two stores
-- right after laying.
use Rattle.std.specs.Prelude.{ℕ, zero, suc, ◌+◌, ◌*◌, ◌/◌, ◌^◌, Bool, false, cond, not, ◌&&◌, ◌||◌, List, [], ◌∷◌, ◌++◌, map, length, take, drop, is_some, Some, None, Option, ◌==◌, nat_lt, slice_index}
use Rattle.octets.specs.BigEndian.{value}
use Rattle.octets.specs.Tests.{same}
use Rattle.refusal.specs.declared.cases.Refusal.{Refusal}
use Rattle.refusal.specs.declared.cases.Refusal.TheVariants.{Full, StoreUnsuited, BufferTooShort, TwoTexts, TextsShown}
use Rattle.refusal.specs.Tables.{◌⇒◌, first, written}
use Rattle.amount.specs.Kinds.{Kind, total}
use Rattle.digest.specs.Hashes.{Hash}
use Rattle.sheet.specs.Layout.{Sheet, sheet_refusal}
use Rattle.file.specs.Layout.{File}
use Rattle.verify.specs.Paths.{file_of, path_text}
use Rattle.verify.specs.Checks.{or_else, under_refusal, leaf_place}
use Rattle.store.specs.Meaning.{Meaning}
use Rattle.client.specs.Suits.{suits}

-- two texts at one place: that of a counted file, and that of the file that is presented
pub record Texts : Type 0 where
  pub stored : List ℕ
  pub offered : List ℕ

-- the files counted since laying, the last one first, and the two texts that were shown
pub record State : Type 0 where
  pub counted : List File
  pub shown : Option Texts

abbrev pub laid : State
laid = record { counted = []; shown = None }

-- a file's bytes; nothing; a buffer; a sheet's bytes
pub data Call : Type 0 where
  present : List ℕ → Call
  tally : Call
  hand_out : List ℕ → Call
  lay : List ℕ → Call

pub data Answer : Type 0 where
  counted_at : ℕ → Answer
  counted_before : ℕ → Answer
  tallied : List ℕ → ℕ → Answer
  -- the length of each text, and the buffer afterwards
  handed : ℕ → ℕ → List ℕ → Answer
  none_shown : List ℕ → Answer
  -- a new sheet lies there: the list of calls is at its end
  laid_anew : Answer
  refused : Refusal → Answer

abbrev pub balances : List File → List (List ℕ)
balances = map (λ (f : File). f.line.balance)

-- what presenting a file comes to
pub data Verdict : Type 0 where
  turned_away : Refusal → Verdict
  clashes : Texts → Verdict
  known : Verdict
  counts : Verdict

module _ (k : Kind) (h : Hash) (s : Sheet) where
  -- the place of a file's path at a height, and its text there
  abbrev pub place_at : File → ℕ → ℕ
  place_at f j = (2 ^ s.depth + f.leaf) / 2 ^ j

  abbrev pub text_at : File → ℕ → List ℕ
  text_at f j = path_text k h s.closing f j

  -- whether the path of one of the files goes through f's place at a height
  abbrev pub through : List File → File → ℕ → Bool
  through [] f j = false
  through (g ∷ fs) f j = place_at g j == place_at f j || through fs f j

  -- both texts at f's place of a height, where one of the files has another there
  abbrev pub two_at : List File → File → ℕ → Option Texts
  two_at [] f j = None
  two_at (g ∷ fs) f j =
      cond (place_at g j == place_at f j && not (same (text_at g j) (text_at f j))) (Some (record { stored = text_at g j; offered = text_at f j })) (two_at fs f j)

  abbrev pub or_lower : Option Texts → Option Texts → Option Texts
  or_lower None lower = lower
  or_lower (Some t) lower = Some t

  -- the first such place from a height down
  abbrev pub clash_from : List File → File → ℕ → Option Texts
  clash_from fs f zero = two_at fs f zero
  clash_from fs f (suc j) = or_lower (two_at fs f (suc j)) (clash_from fs f j)

  abbrev pub clash : List File → File → Option Texts
  clash fs f = clash_from fs f s.depth

  -- how many inner places of f's path, up to a height, no path of the files goes through
  abbrev pub new_inner : List File → File → ℕ → ℕ
  new_inner fs f zero = 0
  new_inner fs f (suc j) = cond (through fs f (suc j)) 0 1 + new_inner fs f j

  -- the new records of a file: the nodes of both children of each of these, and its leaf text
  abbrev pub new_nodes : List File → File → ℕ
  new_nodes fs f = 2 * new_inner fs f s.depth

  abbrev pub used_nodes : List File → ℕ
  used_nodes [] = 0
  used_nodes (f ∷ fs) = new_nodes fs f + used_nodes fs

  -- the stores right after laying
  module _ (nodes leaves : Meaning) where
    -- too few free records in either store
    abbrev pub full : List File → File → Bool
    full fs f = nat_lt nodes.room (used_nodes fs + new_nodes fs f) || nat_lt leaves.room (length fs + 1)

    -- a file that passes the check
    abbrev pub settle_unknown : List File → File → Verdict
    settle_unknown fs f = cond (through fs f 0) known (cond (full fs f) (turned_away Full) counts)

    abbrev pub settle_by : Option Texts → List File → File → Verdict
    settle_by (Some t) fs f = clashes t
    settle_by None fs f = settle_unknown fs f

    abbrev pub settle : List File → File → Verdict
    settle fs f = settle_by (clash fs f) fs f

    abbrev pub verdict_by : Option Refusal → List File → File → Verdict
    verdict_by (Some r) fs f = turned_away r
    verdict_by None fs f = settle fs f

    -- two texts shown before, the check's refusals, then the walk down from the root
    abbrev pub verdict : State → List ℕ → Verdict
    verdict a file = verdict_by (or_else (first ((is_some a.shown ⇒ TextsShown) ∷ [])) (under_refusal k h s file)) a.counted (file_of k s.depth file)

    abbrev pub presented : ℕ → Verdict → Answer
    presented p (turned_away r) = refused r
    presented p (clashes t) = refused TwoTexts
    presented p known = counted_before p
    presented p counts = counted_at p

    -- only a file that counts, and two texts, change anything
    abbrev pub after_verdict : State → File → Verdict → State
    after_verdict a f (turned_away r) = a
    after_verdict a f (clashes t) = record { counted = a.counted; shown = Some t }
    after_verdict a f known = a
    after_verdict a f counts = record { counted = f ∷ a.counted; shown = a.shown }

    -- handing out: the stored text, then the offered one
    abbrev pub both_texts : Texts → List ℕ
    both_texts t = t.stored ++ t.offered

    abbrev pub hand_refusal : Option Texts → ℕ → Option Refusal
    hand_refusal None size = None
    hand_refusal (Some t) size = first ((nat_lt size (length (both_texts t)) ⇒ BufferTooShort) ∷ [])

    abbrev pub handed_by : Option Refusal → Option Texts → List ℕ → Answer
    handed_by (Some r) shown buffer = refused r
    handed_by None None buffer = none_shown buffer
    handed_by None (Some t) buffer = handed (length t.stored) (length t.offered) (written (both_texts t) buffer)

    -- laying: the sheet's refusals, then stores that do not suit
    abbrev pub lay_refusal : List ℕ → Option Refusal
    lay_refusal sheet =
        or_else (sheet_refusal k h sheet)
        (first ((not (suits nodes (32 + k.width) (value (take 4 (drop 3 sheet))) (slice_index sheet 2) && suits leaves (37 + k.width) (value (take 4 (drop 3 sheet))) (slice_index sheet 2)) ⇒ StoreUnsuited) ∷ []))

    abbrev pub laid_by : Option Refusal → Answer
    laid_by (Some r) = refused r
    laid_by None = laid_anew

    -- what a call is answered, and what follows from it
    abbrev pub answer : State → Call → Answer
    answer a (present file) = presented (leaf_place k s file) (verdict a file)
    answer a tally = tallied (total k (balances a.counted)) (length a.counted)
    answer a (hand_out buffer) = handed_by (hand_refusal a.shown (length buffer)) a.shown buffer
    answer a (lay sheet) = laid_by (lay_refusal sheet)

    abbrev pub next : State → Call → State
    next a (present file) = after_verdict a (file_of k s.depth file) (verdict a file)
    next a tally = a
    next a (hand_out buffer) = a
    next a (lay sheet) = a

    abbrev pub after : State → List Call → State
    after a [] = a
    after a (c ∷ cs) = after (next a c) cs
