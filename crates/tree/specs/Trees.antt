-- The tree of a ledger: what stands at each of its places.
use Rattle.std.specs.Prelude.{ℕ, zero, suc, ◌+◌, ◌-◌, ◌*◌, ◌^◌, Bool, not, ◌||◌, List, [], ◌∷◌, map, length, Some, None, Option, nat_le, nat_lt}
use Rattle.std.specs.List.{slice_get}
use Rattle.refusal.specs.declared.cases.Refusal.{Refusal}
use Rattle.refusal.specs.declared.cases.Refusal.TheVariants.{BadLimits, LeavesTaken, LeafOutside, JoinUnwritable}
use Rattle.refusal.specs.Tables.{◌⇒◌, first}
use Rattle.amount.specs.Kinds.{Kind, total}
use Rattle.digest.specs.Hashes.{Hash}
use Rattle.node.specs.Texts.{Line, Node, leaf_node, padding_node, inner_node}

-- a closing and a depth that a tree can have
abbrev pub bad_limits : ℕ → ℕ → Bool
bad_limits closing depth = nat_lt 20 depth || (nat_lt closing 1 || nat_lt 9999 closing)

-- the place of node n of a height: the root's is 1, and below place i stand 2i and 2i + 1
abbrev pub place : ℕ → ℕ → ℕ → ℕ
place depth height n = 2 ^ (depth - height) + n

-- all balances of a ledger joined
abbrev pub balances_total : Kind → List Line → List ℕ
balances_total k lines = total k (map (λ (l : Line). l.balance) lines)

-- Line n of a ledger is leaf n of its tree, and the leaves with no line are padding.
module _ (k : Kind) (h : Hash) (closing : ℕ) (lines : List Line) where
  abbrev pub leaf_at : ℕ → Option Line → Node
  leaf_at n (Some l) = leaf_node k h closing l
  leaf_at n None = padding_node k h closing n

  -- The leaves stand at height 0; over nodes 2n and 2n + 1 of one height stands node n of the next.
  abbrev pub node_at : ℕ → ℕ → Node
  node_at zero n = leaf_at n (slice_get lines n)
  node_at (suc height) n = inner_node k h (node_at height (2 * n)) (node_at height (2 * n + 1))

  -- when a node of the tree of a depth cannot be had: no such tree, no such node, or an amount that cannot be written
  abbrev pub node_refusal : ℕ → ℕ → ℕ → Option Refusal
  node_refusal depth height n = first (
      (bad_limits closing depth ⇒ BadLimits)
      ∷ (nat_lt (2 ^ depth) (length lines) ⇒ LeavesTaken)
      ∷ (nat_lt depth height || nat_le (2 ^ (depth - height)) n ⇒ LeafOutside)
      ∷ (not (k.writable (node_at height n).amount) ⇒ JoinUnwritable 0)
      ∷ [])
