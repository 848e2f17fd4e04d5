-- How a custodian stands to the state that its calls led to.
use Rattle.std.specs.Prelude.{◌≡◌, ℕ, List, map, length, Some, Ok, Err, Result}
use Rattle.refusal.specs.declared.cases.Refusal.{Refusal}
use Rattle.amount.specs.Kinds.{Kind}
use Rattle.digest.specs.Hashes.{Hash}
use Rattle.tree.specs.Trees.{balances_total}
use Rattle.store.specs.Meaning.{Meaning}
use Rattle.roll.specs.declared.types.Stand.{Stand}
use Rattle.closing.specs.Closings.{Closing, State, Answer, Refused}
use Rattle.closing.specs.Holdings.{Represents}

-- what the roll has of a closing that stands
abbrev pub brief : Closing → Stand
brief c = record { closing = record { 0 = c.number }; depth = c.depth; lines = length c.lines }

-- which answer a result stands for
abbrev pub told : {X Y : Type 0} → (X → Answer) → (Y → Refusal) → Result X Y → Answer
told answer why (Ok x) = answer x
told answer why (Err y) = Refused (why y)

module _ (k : Kind) (h : Hash) where
  -- the stores are those of the state, and the roll has the closings that stand
  pub record Keeps (nodes leaves : Meaning) (roll : List Stand) (s : State) : Type 0 where
    pub represents : Represents k h nodes leaves s
    pub roll_is : roll ≡ map brief s.standing

  -- and the open ledger is that of the state: its number, its depth, how many lines and their total
  pub record KeepsOpen (nodes leaves : Meaning) (roll : List Stand) (number depth lines : ℕ) (total : List ℕ) (s : State) : Type 0 where
    pub keeps : Keeps nodes leaves roll s
    pub ledger : Closing
    pub ledger_is : s.ledger ≡ Some ledger
    pub number_is : ledger.number ≡ number
    pub depth_is : ledger.depth ≡ depth
    pub lines_are : length ledger.lines ≡ lines
    pub total_is : balances_total k ledger.lines ≡ total
