-- What the two stores hold of each closing, and what holds in every state that calls lead to.
use Rattle.std.specs.Prelude.{◌≡◌, ℕ, ◌+◌, ◌-◌, ◌^◌, ◌<◌, ◌≤◌, true, ◌⊎◌, List, [], ◌∷◌, length, Some, None}
use Rattle.std.specs.List.{slice_get}
use Rattle.amount.specs.Kinds.{Kind}
use Rattle.digest.specs.Hashes.{Hash}
use Rattle.node.specs.Texts.{Line, node_bytes, leaf_text, leaf_node}
use Rattle.tree.specs.Trees.{place, node_at}
use Rattle.file.specs.Ledgers.{Ledger}
use Rattle.store.specs.Meaning.{Meaning}
use Rattle.store.specs.Counts.{held}
use Rattle.store.specs.Calls.{SameLimits}
use Rattle.client.specs.Suits.{suits}
use Rattle.closing.specs.Closings.{Closing, Counts, State, stands}

-- a closing that has a sheet, and that both stores suit
pub record Fits (k : Kind) (nodes leaves : Meaning) (c : Closing) : Type 0 where
  pub ledger : Ledger k c.number c.depth c.lines
  pub nodes_suit : suits nodes (32 + k.width) c.number c.depth ≡ true
  pub leaves_suit : suits leaves (37 + k.width) c.number c.depth ≡ true

-- no number stands twice
abbrev pub Once : List Closing → Type 0
Once [] = Unit {0}
Once (c ∷ cs) = (stands c.number cs ≡ None) × Once cs

-- what holds after every list of calls
pub record Good (k : Kind) (s : State) : Type 0 where
  pub few : length s.standing ≤ 8
  pub once : Once s.standing
  pub number_is : (n : ℕ) (c : Closing) → stands n s.standing ≡ Some c → c.number ≡ n
  pub standing_fits : (n : ℕ) (c : Closing) → stands n s.standing ≡ Some c → Fits k s.nodes.start s.leaves.start c
  pub open_fits : (c : Closing) → s.ledger ≡ Some c → Fits k s.nodes.start s.leaves.start c
  pub open_apart : (c : Closing) → s.ledger ≡ Some c → stands c.number s.standing ≡ None
  pub open_few : (c : Closing) → s.ledger ≡ Some c → length s.standing < 8
  -- the room that the open ledger needs was seen when it was opened
  pub open_nodes_room : (c : Closing) → s.ledger ≡ Some c → 2 ^ (c.depth + 1) - 1 ≤ s.nodes.room + length c.lines
  pub open_leaves_room : (c : Closing) → s.ledger ≡ Some c → 2 ^ c.depth ≤ s.leaves.room + length c.lines

-- a record for each line, at the place of its leaf, and no other
pub record HoldsLines (said : Line → List ℕ) (m : Meaning) (c : Closing) : Type 0 where
  pub lines_there : (n : ℕ) (l : Line) → slice_get c.lines n ≡ Some l → m.find c.number (2 ^ c.depth + n) ≡ Some (said l)
  pub none_else : (p : ℕ) → (p < 2 ^ c.depth) ⊎ (2 ^ c.depth + length c.lines ≤ p) → m.find c.number p ≡ None

-- what a store counts is what it means
pub record Counted (m : Meaning) (n : Counts) : Type 0 where
  pub limits : SameLimits n.start m
  pub room_is : m.room ≡ n.room
  pub held_is : (c : ℕ) → held m c ≡ n.held_of c

module _ (k : Kind) (h : Hash) where
  -- every node of a closing's tree, at its place, and no other
  pub record HoldsTree (m : Meaning) (c : Closing) : Type 0 where
    pub nodes_there : (height n : ℕ) → height ≤ c.depth → n < 2 ^ (c.depth - height)
        → m.find c.number (place c.depth height n) ≡ Some (node_bytes k (node_at k h c.number c.lines height n))
    pub none_else : (p : ℕ) → (p < 1) ⊎ (2 ^ (c.depth + 1) ≤ p) → m.find c.number p ≡ None

  -- the texts of its lines, and the nodes of its lines
  abbrev pub HoldsTexts : Meaning → Closing → Type 0
  HoldsTexts m c = HoldsLines (leaf_text k c.number) m c

  abbrev pub HoldsLeaves : Meaning → Closing → Type 0
  HoldsLeaves m c = HoldsLines (λ (l : Line). node_bytes k (leaf_node k h c.number l)) m c

  -- The two stores are those of a state: of each closing that stands the node store holds the tree and the leaf store the
  -- texts, and of the open ledger the lines so far.
  pub record Represents (nodes leaves : Meaning) (s : State) : Type 0 where
    pub good : Good k s
    pub nodes_counted : Counted nodes s.nodes
    pub leaves_counted : Counted leaves s.leaves
    pub trees : (n : ℕ) (c : Closing) → stands n s.standing ≡ Some c → HoldsTree nodes c
    pub texts : (n : ℕ) (c : Closing) → stands n s.standing ≡ Some c → HoldsTexts leaves c
    pub open_leaves : (c : Closing) → s.ledger ≡ Some c → HoldsLeaves nodes c
    pub open_texts : (c : Closing) → s.ledger ≡ Some c → HoldsTexts leaves c
