-- The sheet of a closing: what the notice prints, byte by byte.
use Rattle.std.specs.Prelude.{ℕ, ◌+◌, not, ◌&&◌, List, [], ◌∷◌, ◌++◌, length, take, drop, is_some, Option, ◌==◌, slice_index}
use Rattle.std.specs.Option.{option_map}
use Rattle.octets.specs.BigEndian.{be, value}
use Rattle.refusal.specs.declared.cases.Refusal.{Refusal}
use Rattle.refusal.specs.declared.cases.Refusal.TheVariants.{SheetLength, OtherKind, BadLimits, BadAmount}
use Rattle.refusal.specs.Tables.{◌⇒◌, first}
use Rattle.amount.specs.Kinds.{Kind}
use Rattle.digest.specs.Hashes.{Hash}
use Rattle.node.specs.Texts.{Node, node_bytes, read_node}
use Rattle.tree.specs.Trees.{bad_limits}

pub record Sheet : Type 0 where
  pub closing : ℕ
  pub depth : ℕ
  -- the root's digest, and the total
  pub root : Node

module _ (k : Kind) (h : Hash) where
  -- the first seven bytes of a sheet, and of each of its files
  abbrev pub head : ℕ → ℕ → List ℕ
  head closing depth = k.number ∷ h.number ∷ depth ∷ be 4 closing

  abbrev pub sheet_bytes : Sheet → List ℕ
  sheet_bytes s = head s.closing s.depth ++ node_bytes k s.root

  -- when bytes are refused as a sheet
  abbrev pub sheet_refusal : List ℕ → Option Refusal
  sheet_refusal s = first (
      (not (length s == 39 + k.width) ⇒ SheetLength)
      ∷ (not (slice_index s 0 == k.number && slice_index s 1 == h.number) ⇒ OtherKind)
      ∷ (bad_limits (value (take 4 (drop 3 s))) (slice_index s 2) ⇒ BadLimits)
      ∷ (not (is_some (k.read (drop 39 s))) ⇒ BadAmount 39)
      ∷ [])

  -- the fields of bytes that are not refused
  abbrev pub read_sheet : List ℕ → Option Sheet
  read_sheet s = option_map (λ (n : Node). record { closing = value (take 4 (drop 3 s)); depth = slice_index s 2; root = n }) (read_node k (drop 7 s))
