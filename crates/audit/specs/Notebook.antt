-- The auditor's notebook: what its two stores hold of the files counted since a sheet was laid.
use Rattle.std.specs.Prelude.{◌≡◌, ℕ, zero, suc, ◌+◌, ◌*◌, ◌<◌, ◌≤◌, ◌⊎◌, List, ◌∷◌, ◌++◌, length, Some, None, Option, ◌≢◌}
use Rattle.amount.specs.Kinds.{Kind}
use Rattle.digest.specs.Hashes.{Hash}
use Rattle.node.specs.Texts.{node_bytes}
use Rattle.sheet.specs.Layout.{Sheet}
use Rattle.file.specs.Layout.{File}
use Rattle.verify.specs.Paths.{left, right, path_node}
use Rattle.store.specs.Meaning.{Meaning}
use Rattle.store.specs.Calls.{SameLimits}
use Rattle.audit.specs.Audits.{State, place_at, text_at, used_nodes}
use Rattle.audit.specs.Promise.{Among}

-- the inner text of two node records, where both are there
abbrev pub both : Option (List ℕ) → Option (List ℕ) → Option (List ℕ)
both None r = None
both (Some l) None = None
both (Some l) (Some r) = Some (1 ∷ (l ++ r))

module _ (k : Kind) (h : Hash) (s : Sheet) where
  -- the records of a file's path below height j + 1: the nodes of both children
  abbrev pub left_record : File → ℕ → List ℕ
  left_record f j = node_bytes k (left f j (path_node k h s.closing f j))

  abbrev pub right_record : File → ℕ → List ℕ
  right_record f j = node_bytes k (right f j (path_node k h s.closing f j))

  abbrev pub left_place : File → ℕ → ℕ
  left_place f j = 2 * place_at k h s f (suc j)

  abbrev pub right_place : File → ℕ → ℕ
  right_place f j = 2 * place_at k h s f (suc j) + 1

  abbrev pub ChildOf : File → ℕ → ℕ → Type 0
  ChildOf f j p = (p ≡ left_place f j) ⊎ (p ≡ right_place f j)

  -- The node store, from what it was right after laying: both children of each inner place of a counted file's path, and only those.
  pub record KeepsNodes (start m : Meaning) (fs : List File) : Type 0 where
    pub limits : SameLimits start m
    pub room : m.room + used_nodes k h s fs ≡ start.room
    pub has_left : (g : File) → Among g fs → (j : ℕ) → j < s.depth → m.find s.closing (left_place g j) ≡ Some (left_record g j)
    pub has_right : (g : File) → Among g fs → (j : ℕ) → j < s.depth → m.find s.closing (right_place g j) ≡ Some (right_record g j)
    pub only : (p : ℕ) (r : List ℕ) → m.find s.closing p ≡ Some r → (g : File) × Among g fs × (j : ℕ) × (j < s.depth) × ChildOf g j p
    pub others : (c p : ℕ) → (c ≢ s.closing) → m.find c p ≡ start.find c p

  -- The leaf store: the leaf text of each counted file, and only those.
  pub record KeepsLeaves (start m : Meaning) (fs : List File) : Type 0 where
    pub limits : SameLimits start m
    pub room : m.room + length fs ≡ start.room
    pub has : (g : File) → Among g fs → m.find s.closing (place_at k h s g 0) ≡ Some (text_at k h s g 0)
    pub only : (p : ℕ) (r : List ℕ) → m.find s.closing p ≡ Some r → (g : File) × Among g fs × (p ≡ place_at k h s g 0)
    pub others : (c p : ℕ) → (c ≢ s.closing) → m.find c p ≡ start.find c p

  -- Both stores, as they were right after laying and as they are now.
  pub record Keeps (nodes leaves node_store leaf_store : Meaning) (a : State) : Type 0 where
    pub of_nodes : KeepsNodes nodes node_store a.counted
    pub of_leaves : KeepsLeaves leaves leaf_store a.counted

  module _ (node_store leaf_store : Meaning) where
    -- the text that is noted at a place of a height
    abbrev pub noted : ℕ → ℕ → Option (List ℕ)
    noted zero p = leaf_store.find s.closing p
    noted (suc j) p = both (node_store.find s.closing (2 * p)) (node_store.find s.closing (2 * p + 1))

    -- from the root down to above a height, the texts of f are noted
    abbrev pub Walked : File → ℕ → Type 0
    Walked f j = (i : ℕ) → j < i → i ≤ s.depth → noted i (place_at k h s f i) ≡ Some (text_at k h s f i)

  -- n is m with the node records of f below the heights 1 to j
  pub record WroteNodes (m n : Meaning) (f : File) (j : ℕ) : Type 0 where
    pub limits : SameLimits m n
    pub room : n.room + 2 * j ≡ m.room
    pub on_left : (i : ℕ) → i < j → n.find s.closing (left_place f i) ≡ Some (left_record f i)
    pub on_right : (i : ℕ) → i < j → n.find s.closing (right_place f i) ≡ Some (right_record f i)
    pub off : (c p : ℕ) → (c ≡ s.closing → (i : ℕ) → i < j → ChildOf f i p → ⊥) → n.find c p ≡ m.find c p
