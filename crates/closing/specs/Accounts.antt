-- Which lines a closing has: those that were entered between its opening and its closing.
use Rattle.std.specs.Prelude.{◌≡◌, ℕ, cond, List, [], ◌∷◌, ◌++◌, Some, None, Option, ◌≢◌}
use Rattle.std.specs.List.{AllByRecursion}
use Rattle.refusal.specs.declared.cases.Refusal.{Refusal}
use Rattle.amount.specs.Kinds.{Kind}
use Rattle.node.specs.Texts.{Line}
use Rattle.store.specs.Meaning.{Meaning}
use Rattle.closing.specs.Closings.{Closing, State, new, stands, ledger_of, line, Call, Open, Enter, Close, Abandon, Withdraw, Write, Issue, open_refusal, enter_refusal, stopped, next, after}
use Rattle.closing.specs.Standings.{Lasts}

module _ (k : Kind) where
  abbrev pub unless_turned_down : Option Refusal → Line → List Line
  unless_turned_down None l = l ∷ []
  unless_turned_down (Some r) l = []

  -- the line that a call enters
  abbrev pub entered_line : State → Call → List Line
  entered_line s (Open n depth) = []
  entered_line s (Enter customer salt balance) =
      cond (stopped k s (Enter customer salt balance)) [] (unless_turned_down (enter_refusal k (ledger_of s) customer salt balance) (line customer salt balance))
  entered_line s Close = []
  entered_line s Abandon = []
  entered_line s (Withdraw n) = []
  entered_line s (Write n buffer) = []
  entered_line s (Issue n leaf buffer) = []

  abbrev pub lines_entered : State → List Call → List Line
  lines_entered s [] = []
  lines_entered s (c ∷ cs) = entered_line s c ++ lines_entered (next k s c) cs

  -- this ledger was opened, its lines were entered since, and it was neither closed nor abandoned
  pub record OpenSince (start : State) (calls : List Call) (c : Closing) : Type 0 where
    pub before : List Call
    pub since : List Call
    pub is : calls ≡ before ++ (Open c.number c.depth ∷ since)
    pub none_open : (after k start before).ledger ≡ None
    pub unrefused : open_refusal k (after k start before) c.number c.depth ≡ None
    pub unclosed : AllByRecursion (λ (x : Call). (x ≢ Close) × (x ≢ Abandon)) since
    pub lines_are : c.lines ≡ lines_entered (next k (after k start before) (Open c.number c.depth)) since

  -- it was closed, and not withdrawn since
  pub record StandsSince (start : State) (calls : List Call) (c : Closing) : Type 0 where
    pub before : List Call
    pub later : List Call
    pub is : calls ≡ before ++ (Close ∷ later)
    pub was_open : OpenSince start before c
    pub lasts : Lasts c.number later

-- After every list of a new custodian's calls, the open ledger and each closing that stands have just the lines that were
-- entered for them.
abbrev pub LinesAccount : Type 0
LinesAccount =
    (k : Kind) (nodes leaves : Meaning) (calls : List Call)
    → ((c : Closing) → (after k (new nodes leaves) calls).ledger ≡ Some c → OpenSince k (new nodes leaves) calls c)
    × ((n : ℕ) (c : Closing) → stands n (after k (new nodes leaves) calls).standing ≡ Some c → (c.number ≡ n) × StandsSince k (new nodes leaves) calls c)
