-- A closing that stands in the two stores.
use Rattle.std.specs.Prelude.{◌≡◌, ◌+◌, true}
use Rattle.amount.specs.Kinds.{Kind}
use Rattle.digest.specs.Hashes.{Hash}
use Rattle.file.specs.Ledgers.{Ledger}
use Rattle.store.specs.Meaning.{Meaning}
use Rattle.client.specs.Suits.{suits}
use Rattle.closing.specs.Closings.{Closing}
use Rattle.closing.specs.Holdings.{HoldsTree, HoldsTexts}

-- its tree in the node store
pub record TreeStands (k : Kind) (h : Hash) (m : Meaning) (c : Closing) : Type 0 where
  pub ledger : Ledger k c.number c.depth c.lines
  pub suit : suits m (32 + k.width) c.number c.depth ≡ true
  pub tree : HoldsTree k h m c

-- its texts in the leaf store
pub record TextsStand (k : Kind) (h : Hash) (m : Meaning) (c : Closing) : Type 0 where
  pub suit : suits m (37 + k.width) c.number c.depth ≡ true
  pub texts : HoldsTexts k h m c
