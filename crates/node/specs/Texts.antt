-- The texts that are hashed, and the nodes that they make.
use Rattle.std.specs.Prelude.{ℕ, List, ◌∷◌, ◌++◌, take, drop, Option}
use Rattle.std.specs.Option.{option_map}
use Rattle.octets.specs.BigEndian.{be}
use Rattle.amount.specs.Kinds.{Kind}
use Rattle.digest.specs.Hashes.{Hash}

-- a line of a ledger: one customer's balance
pub record Line : Type 0 where
  pub customer : List ℕ
  pub salt : List ℕ
  pub balance : List ℕ

-- a node: the digest of its text, and the amount below it
pub record Node : Type 0 where
  pub digest : List ℕ
  pub amount : List ℕ

abbrev pub node_bytes : Kind → Node → List ℕ
node_bytes k n = n.digest ++ k.bytes n.amount

-- the node that bytes say, where they say one
abbrev pub read_node : Kind → List ℕ → Option Node
read_node k s = option_map (λ (a : List ℕ). record { digest = take 32 s; amount = a }) (k.read (drop 32 s))

abbrev pub leaf_text : Kind → ℕ → Line → List ℕ
leaf_text k closing l = 0 ∷ (be 4 closing ++ (l.customer ++ (l.salt ++ k.bytes l.balance)))

abbrev pub padding_text : ℕ → ℕ → List ℕ
padding_text closing leaf = 2 ∷ (be 4 closing ++ be 4 leaf)

-- both child sums are in it
abbrev pub inner_text : Kind → Node → Node → List ℕ
inner_text k left right = 1 ∷ (node_bytes k left ++ node_bytes k right)

abbrev pub leaf_node : Kind → Hash → ℕ → Line → Node
leaf_node k h closing l = record { digest = h.of (leaf_text k closing l); amount = l.balance }

abbrev pub padding_node : Kind → Hash → ℕ → ℕ → Node
padding_node k h closing leaf = record { digest = h.of (padding_text closing leaf); amount = k.zero }

abbrev pub inner_node : Kind → Hash → Node → Node → Node
inner_node k h left right = record { digest = h.of (inner_text k left right); amount = k.join left.amount right.amount }
