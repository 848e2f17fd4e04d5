-- What a custodian answers to each call, by the calls since it was new and the meanings of its two stores then.
use Rattle.std.specs.Prelude.{ℕ, ◌+◌, ◌-◌, ◌^◌, Bool, false, cond, not, ◌&&◌, ◌||◌, List, [], ◌∷◌, ◌++◌, length, is_some, Some, None, Option, ◌==◌, nat_le, nat_lt}
use Rattle.std.specs.Option.{unwrap_or}
use Rattle.std.specs.List.{slice_get}
use Rattle.refusal.specs.declared.cases.Refusal.{Refusal}
use Rattle.refusal.specs.declared.cases.Refusal.TheVariants.{BadLimits, AlreadyStands, EightStand, StoreUnsuited, Full, BadIdentity, LeavesTaken, JoinUnwritable, NotStanding, BufferTooShort}
use Rattle.refusal.specs.Tables.{◌⇒◌, first, written}
use Rattle.amount.specs.Kinds.{Kind}
use Rattle.digest.specs.Hashes.{Hash}
use Rattle.node.specs.Texts.{Line}
use Rattle.tree.specs.Trees.{bad_limits, balances_total}
use Rattle.sheet.specs.Layout.{sheet_bytes}
use Rattle.file.specs.Layout.{file_bytes, file_length}
use Rattle.file.specs.Ledgers.{ledger_sheet, line_file}
use Rattle.store.specs.Meaning.{Meaning}
use Rattle.store.specs.Counts.{held}
use Rattle.client.specs.Suits.{suits}
use Rattle.roll.specs.Rolls.{under_number, without_number}

-- a ledger under its closing's number; its lines are the leaves 0, 1, .. of a tree of 2 ^ depth leaves
pub record Closing : Type 0 where
  pub number : ℕ
  pub depth : ℕ
  pub lines : List Line

-- what is counted of a store: its meaning at the start, whose limits it keeps, its room, and how many records each closing has
pub record Counts : Type 0 where
  pub start : Meaning
  pub room : ℕ
  pub held_of : ℕ → ℕ

abbrev pub counts : Meaning → Counts
counts m = record { start = m; room = m.room; held_of = held m }

-- a closing is forgotten, and its records go back to the room
abbrev pub cleared : Counts → ℕ → Counts
cleared n c = record { start = n.start; room = n.room + n.held_of c; held_of = λ d. cond (d == c) 0 (n.held_of d) }

-- a closing gets new records, which are taken from the room
abbrev pub taken : Counts → ℕ → ℕ → Counts
taken n c more = record { start = n.start; room = n.room - more; held_of = λ d. cond (d == c) (n.held_of d + more) (n.held_of d) }

-- the open ledger, if there is one; the closings that stand, the oldest first; and the two stores
pub record State : Type 0 where
  pub ledger : Option Closing
  pub standing : List Closing
  pub nodes : Counts
  pub leaves : Counts

-- whatever the stores hold, nothing is open and nothing stands
abbrev pub new : Meaning → Meaning → State
new nodes leaves = record { ledger = None; standing = []; nodes = counts nodes; leaves = counts leaves }

-- the closing that stands under a number, and the others
abbrev pub stands : ℕ → List Closing → Option Closing
stands = under_number (λ (c : Closing). c.number)

abbrev pub without : ℕ → List Closing → List Closing
without = without_number (λ (c : Closing). c.number)

abbrev pub no_lines : ℕ → ℕ → Closing
no_lines n d = record { number = n; depth = d; lines = [] }

abbrev pub with_line : Closing → Line → Closing
with_line c l = record { number = c.number; depth = c.depth; lines = c.lines ++ (l ∷ []) }

-- Numbers are those of closings and leaves; a customer number and a salt are bytes of any length, a balance is a meaning; the
-- last of the two that write is the buffer.
pub data Call : Type 0 where
  Open : ℕ → ℕ → Call
  Enter : List ℕ → List ℕ → List ℕ → Call
  Close : Call
  Abandon : Call
  Withdraw : ℕ → Call
  Write : ℕ → List ℕ → Call
  Issue : ℕ → ℕ → List ℕ → Call

pub data Answer : Type 0 where
  Opened : Answer
  Entered : ℕ → Answer
  Closed : Answer
  Abandoned : Answer
  Withdrawn : Answer
  -- how many bytes, and the buffer afterwards
  Wrote : ℕ → List ℕ → Answer
  Refused : Refusal → Answer
  -- a call that the types stop before a run
  Stopped : Answer

abbrev pub line : List ℕ → List ℕ → List ℕ → Line
line customer salt balance = record { customer = customer; salt = salt; balance = balance }

-- the open ledger, where one is open
abbrev pub ledger_of : State → Closing
ledger_of s = unwrap_or s.ledger (no_lines 0 0)

-- the closing under a number, where one stands
abbrev pub standing_of : State → ℕ → Closing
standing_of s n = unwrap_or (stands n s.standing) (no_lines n 0)

-- the line of a leaf of a closing that stands
abbrev pub line_of : State → ℕ → ℕ → Option Line
line_of s n leaf = slice_get (standing_of s n).lines leaf

abbrev pub no_line : Line
no_line = line [] [] []

module _ (k : Kind) where
  -- the tables of refusals
  abbrev pub open_refusal : State → ℕ → ℕ → Option Refusal
  open_refusal s n depth = first (
      (bad_limits n depth ⇒ BadLimits)
      ∷ (is_some (stands n s.standing) ⇒ AlreadyStands)
      ∷ (nat_le 8 (length s.standing) ⇒ EightStand)
      ∷ (not (suits s.nodes.start (32 + k.width) n depth && suits s.leaves.start (37 + k.width) n depth) ⇒ StoreUnsuited)
      ∷ (nat_lt (s.nodes.room + s.nodes.held_of n) (2 ^ (depth + 1) - 1) || nat_lt (s.leaves.room + s.leaves.held_of n) (2 ^ depth) ⇒ Full)
      ∷ [])

  abbrev pub enter_refusal : Closing → List ℕ → List ℕ → List ℕ → Option Refusal
  enter_refusal c customer salt balance = first (
      (not (length customer == 16 && length salt == 16) ⇒ BadIdentity)
      ∷ (nat_le (2 ^ c.depth) (length c.lines) ⇒ LeavesTaken)
      ∷ (not (k.writable (balances_total k (c.lines ++ (line customer salt balance ∷ [])))) ⇒ JoinUnwritable 0)
      ∷ [])

  abbrev pub write_refusal : State → ℕ → ℕ → Option Refusal
  write_refusal s n size = first (
      (not (is_some (stands n s.standing)) ⇒ NotStanding)
      ∷ (nat_lt size (39 + k.width) ⇒ BufferTooShort)
      ∷ [])

  abbrev pub issue_refusal : State → ℕ → ℕ → ℕ → Option Refusal
  issue_refusal s n leaf size = first (
      (not (is_some (line_of s n leaf)) ⇒ NotStanding)
      ∷ (nat_lt size (file_length k.width (standing_of s n).depth) ⇒ BufferTooShort)
      ∷ [])

  abbrev pub withdraw_refusal : State → ℕ → Option Refusal
  withdraw_refusal s n = first ((not (is_some (stands n s.standing)) ⇒ NotStanding) ∷ [])

  abbrev pub refusal : State → Call → Option Refusal
  refusal s (Open n depth) = open_refusal s n depth
  refusal s (Enter customer salt balance) = enter_refusal (ledger_of s) customer salt balance
  refusal s Close = None
  refusal s Abandon = None
  refusal s (Withdraw n) = withdraw_refusal s n
  refusal s (Write n buffer) = write_refusal s n (length buffer)
  refusal s (Issue n leaf buffer) = issue_refusal s n leaf (length buffer)

  -- Opening and issuing while a ledger is open, entering, closing and abandoning while none is, and a balance that is no
  -- amount's: the types stop these.
  abbrev pub stopped : State → Call → Bool
  stopped s (Open n depth) = is_some s.ledger
  stopped s (Enter customer salt balance) = not (is_some s.ledger && k.writable balance)
  stopped s Close = not (is_some s.ledger)
  stopped s Abandon = not (is_some s.ledger)
  stopped s (Withdraw n) = false
  stopped s (Write n buffer) = false
  stopped s (Issue n leaf buffer) = is_some s.ledger

  -- what follows from a call that is answered
  abbrev pub opened : State → ℕ → ℕ → State
  opened s n depth = record { ledger = Some (no_lines n depth); standing = s.standing; nodes = cleared s.nodes n; leaves = cleared s.leaves n }

  abbrev pub entered : State → Closing → Line → State
  entered s c l = record { ledger = Some (with_line c l); standing = s.standing; nodes = taken s.nodes c.number 1; leaves = taken s.leaves c.number 1 }

  abbrev pub closed : State → Closing → State
  closed s c = record { ledger = None; standing = s.standing ++ (c ∷ []); nodes = taken s.nodes c.number (2 ^ (c.depth + 1) - 1 - length c.lines); leaves = s.leaves }

  abbrev pub abandoned : State → Closing → State
  abandoned s c = record { ledger = None; standing = s.standing; nodes = cleared s.nodes c.number; leaves = cleared s.leaves c.number }

  abbrev pub withdrawn : State → ℕ → State
  withdrawn s n = record { ledger = s.ledger; standing = without n s.standing; nodes = cleared s.nodes n; leaves = cleared s.leaves n }

  abbrev pub changed : State → Call → State
  changed s (Open n depth) = opened s n depth
  changed s (Enter customer salt balance) = entered s (ledger_of s) (line customer salt balance)
  changed s Close = closed s (ledger_of s)
  changed s Abandon = abandoned s (ledger_of s)
  changed s (Withdraw n) = withdrawn s n
  changed s (Write n buffer) = s
  changed s (Issue n leaf buffer) = s

  abbrev pub unless_refused : Option Refusal → State → State → State
  unless_refused (Some r) s t = s
  unless_refused None s t = t

  -- the state after a call, and after several
  abbrev pub next : State → Call → State
  next s call = cond (stopped s call) s (unless_refused (refusal s call) s (changed s call))

  abbrev pub after : State → List Call → State
  after s [] = s
  after s (c ∷ cs) = after (next s c) cs

module _ (k : Kind) (h : Hash) where
  -- the sheet of a closing, and the file of a line of it, in bytes
  abbrev pub sheet_said : Closing → List ℕ
  sheet_said c = sheet_bytes k h (ledger_sheet k h c.number c.lines c.depth)

  abbrev pub file_said : Closing → ℕ → Line → List ℕ
  file_said c leaf l = file_bytes k h c.number c.depth (line_file k h c.number c.lines c.depth leaf l)

  abbrev pub wrote : List ℕ → List ℕ → Answer
  wrote said buffer = Wrote (length said) (written said buffer)

  abbrev pub answered : State → Call → Answer
  answered s (Open n depth) = Opened
  answered s (Enter customer salt balance) = Entered (length (ledger_of s).lines)
  answered s Close = Closed
  answered s Abandon = Abandoned
  answered s (Withdraw n) = Withdrawn
  answered s (Write n buffer) = wrote (sheet_said (standing_of s n)) buffer
  answered s (Issue n leaf buffer) = wrote (file_said (standing_of s n) leaf (unwrap_or (line_of s n leaf) no_line)) buffer

  abbrev pub or_refused : Option Refusal → Answer → Answer
  or_refused (Some r) a = Refused r
  or_refused None a = a

  -- what a call is answered
  abbrev pub answer : State → Call → Answer
  answer s call = cond (stopped k s call) Stopped (or_refused (refusal k s call) (answered s call))
