-- The file of a line: what a customer is handed, byte by byte.
use Rattle.std.specs.Prelude.{ℕ, ◌+◌, ◌*◌, List, [], ◌∷◌, ◌++◌}
use Rattle.octets.specs.BigEndian.{be}
use Rattle.amount.specs.Kinds.{Kind}
use Rattle.digest.specs.Hashes.{Hash}
use Rattle.node.specs.Texts.{Line, Node, node_bytes}
use Rattle.sheet.specs.Layout.{head}

pub record File : Type 0 where
  pub leaf : ℕ
  pub line : Line
  -- the nodes beside the path, from the leaf upwards
  pub steps : List Node

abbrev pub steps_bytes : Kind → List Node → List ℕ
steps_bytes k [] = []
steps_bytes k (n ∷ ns) = node_bytes k n ++ steps_bytes k ns

abbrev pub file_bytes : Kind → Hash → ℕ → ℕ → File → List ℕ
file_bytes k h closing depth f =
    head k h closing depth ++ (be 4 f.leaf ++ (f.line.customer ++ (f.line.salt ++ (k.bytes f.line.balance ++ steps_bytes k f.steps))))

-- how long a file of a depth is, at a width of amounts
abbrev pub file_length : ℕ → ℕ → ℕ
file_length width depth = 43 + width + depth * (32 + width)
