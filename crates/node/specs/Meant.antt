-- What lines and nodes of the code mean.
use Rattle.std.specs.Prelude.{ℕ, List, map}
use Rattle.node.specs.declared.types.Line as CodeLine
use Rattle.node.specs.declared.types.Node as CodeNode
use Rattle.node.specs.Texts.{Line, Node}

module _ {A : Type 0} (meaning : A → List ℕ) where
  abbrev pub line_of : CodeLine.Line A → Line
  line_of l = record { customer = l.customer; salt = l.salt; balance = meaning l.balance }

  abbrev pub node_of : CodeNode.Node A → Node
  node_of n = record { digest = n.digest; amount = meaning n.amount }

  abbrev pub lines_of : List (CodeLine.Line A) → List Line
  lines_of = map line_of
