-- The tree of a closing in a node store, on its way from the leaves to the root.
use Rattle.std.specs.Prelude.{◌≡◌, ℕ, ◌+◌, ◌-◌, ◌^◌, ◌<◌, ◌≤◌, true, T, length, Some, None, ◌≢◌}
use Rattle.amount.specs.Kinds.{Kind}
use Rattle.digest.specs.Hashes.{Hash}
use Rattle.node.specs.Texts.{Node, node_bytes}
use Rattle.tree.specs.Trees.{place, node_at}
use Rattle.file.specs.Ledgers.{Ledger}
use Rattle.store.specs.Meaning.{Meaning}
use Rattle.store.specs.Counts.{held}
use Rattle.store.specs.Calls.{SameLimits}
use Rattle.client.specs.Suits.{suits}
use Rattle.closing.specs.Closings.{Closing}
use Rattle.closing.specs.Holdings.{HoldsLeaves, HoldsTree}

-- a node that has bytes
pub record Whole (k : Kind) (x : Node) : Type 0 where
  pub digest_long : length x.digest ≡ 32
  pub amount_writable : T (k.writable x.amount)

-- a closing has this number and depth, and so many lines
pub record IsClosing (c : Closing) (number depth lines : ℕ) : Type 0 where
  pub number_is : c.number ≡ number
  pub depth_is : c.depth ≡ depth
  pub lines_are : length c.lines ≡ lines

module _ (k : Kind) (h : Hash) where
  -- a ledger whose lines are in the store, and that the store has room for
  pub record Ripe (m : Meaning) (c : Closing) : Type 0 where
    pub ledger : Ledger k c.number c.depth c.lines
    pub suit : suits m (32 + k.width) c.number c.depth ≡ true
    pub room : 2 ^ (c.depth + 1) - 1 ≤ m.room + length c.lines
    pub leaves : HoldsLeaves k h m c

  -- the store after it: the whole tree, and of the other closings what there was
  pub record Grown (m after : Meaning) (c : Closing) : Type 0 where
    pub limits : SameLimits m after
    pub tree : HoldsTree k h after c
    pub others : (d p : ℕ) → (d ≢ c.number) → after.find d p ≡ m.find d p
    pub room : after.room + (2 ^ (c.depth + 1) - 1) ≡ m.room + length c.lines
    -- what was taken from the room is held
    pub held_too : after.room + held after c.number ≡ m.room + held m c.number

  -- the nodes below a height are there, and the first n of that height
  pub record Risen (m after : Meaning) (c : Closing) (height n : ℕ) : Type 0 where
    pub limits : SameLimits m after
    pub lower : (g i : ℕ) → g < height → i < 2 ^ (c.depth - g) → after.find c.number (place c.depth g i) ≡ Some (node_bytes k (node_at k h c.number c.lines g i))
    pub level : (i : ℕ) → i < n → after.find c.number (place c.depth height i) ≡ Some (node_bytes k (node_at k h c.number c.lines height i))
    pub beyond : (p : ℕ) → 2 ^ (c.depth + 1) ≤ p → after.find c.number p ≡ None
    pub above : (p : ℕ) → p < 2 ^ (c.depth - height) → after.find c.number p ≡ None
    pub beside : (i : ℕ) → n ≤ i → i < 2 ^ (c.depth - height) → after.find c.number (place c.depth height i) ≡ None
    pub others : (d p : ℕ) → (d ≢ c.number) → after.find d p ≡ m.find d p
    pub room : after.room + (2 ^ (c.depth + 1) + n) ≡ m.room + length c.lines + 2 ^ (c.depth - height + 1)
    pub held_too : after.room + held after c.number ≡ m.room + held m c.number
