-- What a file says: its line, its steps, and the texts and nodes along its path.
use Rattle.std.specs.Prelude.{ℕ, zero, suc, ◌/◌, ◌%◌, ◌^◌, Bool, cond, List, [], ◌∷◌, take, drop, ◌==◌, slice_index_or}
use Rattle.std.specs.Option.{unwrap_or}
use Rattle.octets.specs.BigEndian.{value}
use Rattle.amount.specs.Kinds.{Kind}
use Rattle.digest.specs.Hashes.{Hash}
use Rattle.node.specs.Texts.{Node, leaf_text, inner_text, leaf_node, inner_node}
use Rattle.file.specs.Layout.{File}
use Rattle.file.specs.Fields.{step_index, field_bytes}

-- the amount that bytes say, where they say one
abbrev pub amount_of : Kind → List ℕ → List ℕ
amount_of k s = unwrap_or (k.read s) []

abbrev pub step_of : Kind → List ℕ → ℕ → Node
step_of k s j = record { digest = take 32 (field_bytes k.width s (step_index j)); amount = amount_of k (drop 32 (field_bytes k.width s (step_index j))) }

-- as many steps, from step j on
abbrev pub steps_of : Kind → List ℕ → ℕ → ℕ → List Node
steps_of k s zero j = []
steps_of k s (suc more) j = step_of k s j ∷ steps_of k s more (suc j)

-- the fields of a file of a depth
abbrev pub file_of : Kind → ℕ → List ℕ → File
file_of k depth s = record {
  leaf = value (take 4 (drop 7 s));
  line = record { customer = field_bytes k.width s 1; salt = field_bytes k.width s 2; balance = amount_of k (field_bytes k.width s 3) };
  steps = steps_of k s depth 0;
}

abbrev pub step_at : File → ℕ → Node
step_at f j = slice_index_or f.steps j (record { digest = []; amount = [] })

-- bit j of the leaf number: the path's node is the left one where it is 0
abbrev pub is_left : File → ℕ → Bool
is_left f j = f.leaf / 2 ^ j % 2 == 0

abbrev pub left : File → ℕ → Node → Node
left f j own = cond (is_left f j) own (step_at f j)

abbrev pub right : File → ℕ → Node → Node
right f j own = cond (is_left f j) (step_at f j) own

module _ (k : Kind) (h : Hash) (closing : ℕ) where
  -- the node of the path at a height
  abbrev pub path_node : File → ℕ → Node
  path_node f zero = leaf_node k h closing f.line
  path_node f (suc j) = inner_node k h (left f j (path_node f j)) (right f j (path_node f j))

  -- the text of the path at a height: the leaf text at the leaf, the inner text above
  abbrev pub path_text : File → ℕ → List ℕ
  path_text f zero = leaf_text k closing f.line
  path_text f (suc j) = inner_text k (left f j (path_node f j)) (right f j (path_node f j))
