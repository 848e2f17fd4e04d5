-- A custodian and an open ledger as values: the state that they hold, and what a call leaves of their stores.
use Rattle.std.specs.Prelude.{◌≡◌, ℕ, List}
use Rattle.amount.specs.Kinds.{Kind}
use Rattle.digest.specs.Hashes.{Hash}
use Rattle.store.specs.Meaning.{Meaning}
use Rattle.store.specs.Calls.{Cleared}
use Rattle.closing.specs.Closings.{State}
use Rattle.custodian.specs.Keeping.{Keeps, KeepsOpen}
use Rattle.custodian.specs.declared.Custodian.{Custodian}
use Rattle.custodian.specs.declared.Ledger.{Ledger}

module _ {A D N L : Type 0} where
  abbrev pub Holds : Kind → (D → Hash) → (N → Meaning) → (L → Meaning) → Custodian A D N L → State → Type 0
  Holds k hash nodes leaves c s = Keeps k (hash c.digest) (nodes c.nodes) (leaves c.leaves) c.roll s

  abbrev pub HoldsOpen : Kind → (A → List ℕ) → (D → Hash) → (N → Meaning) → (L → Meaning) → Ledger A D N L → State → Type 0
  HoldsOpen k meaning hash nodes leaves l s =
      KeepsOpen k (hash l.of.digest) (nodes l.of.nodes) (leaves l.of.leaves) l.of.roll l.stand.closing.0 l.stand.depth l.stand.lines (meaning l.total) s

  -- both stores mean what they meant
  abbrev pub SameStores : (N → Meaning) → (L → Meaning) → Custodian A D N L → Custodian A D N L → Type 0
  SameStores nodes leaves before after = (nodes after.nodes ≡ nodes before.nodes) × (leaves after.leaves ≡ leaves before.leaves)

  -- a closing is cleared in both, and no other
  abbrev pub ClearedBoth : (N → Meaning) → (L → Meaning) → Custodian A D N L → Custodian A D N L → ℕ → Type 0
  ClearedBoth nodes leaves before after n = Cleared (nodes before.nodes) (nodes after.nodes) n × Cleared (leaves before.leaves) (leaves after.leaves) n
