-- What the climb has in hand once it went through the first i fields of a file.
use Rattle.std.specs.Prelude.{◌≡◌, ℕ, ◌-◌, ◌≤◌, List}
use Rattle.amount.specs.Kinds.{Kind}
use Rattle.digest.specs.Hashes.{Hash}
use Rattle.node.specs.Meant.{node_of}
use Rattle.file.specs.Fields.{field_bytes}
use Rattle.verify.specs.declared.types.Walker.{Walker}
use Rattle.verify.specs.Paths.{file_of, path_node}

pub record Walks {A : Type 0} (meaning : A → List ℕ) (k : Kind) (h : Hash) (closing depth : ℕ) (s : List ℕ) (i : ℕ) (w : Walker A) : Type 0 where
  pub customer_is : 2 ≤ i → w.customer ≡ field_bytes k.width s 1
  pub salt_is : 3 ≤ i → w.salt ≡ field_bytes k.width s 2
  pub height_is : w.height ≡ i - 4
  pub own_is : 4 ≤ i → node_of meaning w.own ≡ path_node k h closing (file_of k depth s) (i - 4)
