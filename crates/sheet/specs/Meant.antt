-- What a sheet of the code means.
use Rattle.std.specs.Prelude.{ℕ, List}
use Rattle.sheet.specs.declared.types.Sheet as CodeSheet
use Rattle.node.specs.Meant.{node_of}
use Rattle.sheet.specs.Layout.{Sheet}

module _ {A : Type 0} (meaning : A → List ℕ) where
  abbrev pub sheet_of : CodeSheet.Sheet A → Sheet
  sheet_of s = record { closing = s.closing.0; depth = s.depth; root = node_of meaning s.root }
