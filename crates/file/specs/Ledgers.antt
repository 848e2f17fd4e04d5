-- The sheet of a ledger, and the file of each of its lines.
use Rattle.std.specs.Prelude.{◌≡◌, ℕ, zero, suc, ◌+◌, ◌-◌, ◌/◌, ◌%◌, ◌^◌, ◌≤◌, false, cond, T, List, [], ◌∷◌, length, Some, ◌==◌}
use Rattle.std.specs.List.{slice_get}
use Rattle.amount.specs.Kinds.{Kind}
use Rattle.digest.specs.Hashes.{Hash}
use Rattle.node.specs.Texts.{Line, Node}
use Rattle.tree.specs.Trees.{bad_limits, balances_total, node_at}
use Rattle.sheet.specs.Layout.{Sheet}
use Rattle.file.specs.Layout.{File}

pub record LineFits (k : Kind) (l : Line) : Type 0 where
  pub customer_long : length l.customer ≡ 16
  pub salt_long : length l.salt ≡ 16
  pub balance_writable : T (k.writable l.balance)

-- a ledger that has a sheet: its limits are good, its lines fit, and its total can be written
pub record Ledger (k : Kind) (closing depth : ℕ) (lines : List Line) : Type 0 where
  pub limits_good : bad_limits closing depth ≡ false
  pub lines_few : length lines ≤ 2 ^ depth
  pub lines_fit : (n : ℕ) (l : Line) → slice_get lines n ≡ Some l → LineFits k l
  pub total_writable : T (k.writable (balances_total k lines))

-- the node beside node m of a height: both have one node above them
abbrev pub beside : ℕ → ℕ
beside m = cond (m % 2 == 0) (m + 1) (m - 1)

module _ (k : Kind) (h : Hash) (closing : ℕ) (lines : List Line) where
  abbrev pub ledger_sheet : ℕ → Sheet
  ledger_sheet depth = record { closing = closing; depth = depth; root = node_at k h closing lines depth 0 }

  -- as many steps beside the path of leaf n, from a height on
  abbrev pub steps_beside : ℕ → ℕ → ℕ → List Node
  steps_beside n zero height = []
  steps_beside n (suc more) height = node_at k h closing lines height (beside (n / 2 ^ height)) ∷ steps_beside n more (suc height)

  -- the file of line n
  abbrev pub line_file : ℕ → ℕ → Line → File
  line_file depth n l = record { leaf = n; line = l; steps = steps_beside n depth 0 }
