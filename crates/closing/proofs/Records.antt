-- The records of a closing: how long they are, and what a node's bytes are read as.
use Rattle.std.proofs.Common.{◌≡◌, ℕ, ◌+◌, ◌-◌, ◌^◌, ◌<◌, ◌≤◌, T, List, ◌++◌, length, Some, sym, subst, arith, length-append}
use Rattle.std.specs.List.{slice_get}
use Rattle.octets.specs.BigEndian.{be}
use Rattle.octets.proofs.Numbers.{be_length}
use Rattle.amount.specs.Kinds.{Kind, Laws}
use Rattle.digest.specs.Hashes.{Hash, HashLaws}
use Rattle.node.specs.Texts.{Line, node_bytes, read_node, leaf_text, leaf_node}
use Rattle.tree.specs.Trees.{node_at}
use Rattle.tree.proofs.Totals.{root_total}
use Rattle.node.proofs.NodeBytes.{node_read}
use Rattle.file.specs.Ledgers.{LineFits, Ledger}
use Rattle.verify.proofs.Back.{SoundNode, node_long}
use Rattle.verify.proofs.Passing.{nth_inside, node_digest, below}

-- a ledger that has a sheet
module _ {k : Kind} {closing depth : ℕ} {lines : List Line} (ledger : Ledger k closing depth lines) where
  pub balances_fit : (n : ℕ) (l : Line) → slice_get lines n ≡ Some l → T (k.writable l.balance)
  balances_fit n l e = (ledger.lines_fit n l e).balance_writable

  pub leaf_inside : (n : ℕ) (l : Line) → slice_get lines n ≡ Some l → n < 2 ^ depth
  leaf_inside n l e = omega (arith, nth_inside lines n l e, ledger.lines_few)

  pub root_writable : Laws k → (h : Hash) → T (k.writable (node_at k h closing lines depth 0).amount)
  root_writable laws h = subst (λ x. T (k.writable x)) (sym (root_total laws h closing lines balances_fit depth ledger.lines_few)) ledger.total_writable

module _ {k : Kind} (laws : Laws k) where
  pub text_long : (n : ℕ) (l : Line) → LineFits k l → length (leaf_text k n l) ≡ 37 + k.width
  text_long n l fits =
      let bytes = k.bytes l.balance in
      omega (arith, length-append (be 4 n) (l.customer ++ (l.salt ++ bytes)), be_length 4 n, length-append l.customer (l.salt ++ bytes), fits.customer_long, length-append l.salt bytes, fits.salt_long, laws.bytes_width l.balance fits.balance_writable)

  module _ {h : Hash} (hashes : HashLaws h) where
    pub leaf_node_long : (n : ℕ) (l : Line) → T (k.writable l.balance) → length (node_bytes k (leaf_node k h n l)) ≡ 32 + k.width
    leaf_node_long n l w = node_long k laws (leaf_node k h n l) (hashes.of_length (leaf_text k n l), w)

    -- every node of the tree of a ledger that has a sheet
    module _ {closing depth : ℕ} {lines : List Line} (ledger : Ledger k closing depth lines) (height n : ℕ) (g : height ≤ depth) (i : n < 2 ^ (depth - height)) where
      pub tree_node_sound : SoundNode k (node_at k h closing lines height n)
      tree_node_sound = (
        node_digest laws h hashes closing lines (balances_fit ledger) height n,
        below laws h hashes closing lines (balances_fit ledger) (depth - height) height n i
            (subst (λ x. T (k.writable (node_at k h closing lines x 0).amount)) (let q : depth ≡ height + (depth - height) = omega arith in q) (root_writable ledger laws h)),
      )

      pub tree_node_long : length (node_bytes k (node_at k h closing lines height n)) ≡ 32 + k.width
      tree_node_long = node_long k laws (node_at k h closing lines height n) tree_node_sound

      pub tree_node_read : read_node k (node_bytes k (node_at k h closing lines height n)) ≡ Some (node_at k h closing lines height n)
      tree_node_read = node_read k laws (node_at k h closing lines height n) tree_node_sound.0 tree_node_sound.1
