-- What holds of a chained store between calls.
use Rattle.std.specs.Prelude.{◌≡◌, ℕ, ◌+◌, ◌<◌, ◌≤◌, Bool, true, cond, List, [], ◌∷◌, length, ◌≢◌}
use Rattle.memory.specs.Part.{part}
use Rattle.store.specs.Counts.{sum_to}
use Rattle.store.specs.Meaning.{holds_key}
use Rattle.chained_theory.specs.Layout.{start_of, next_at, closing_at, place_at, head_at, has_key, seek_in, scan_at, count_of, without}

-- the chain from i has the records xs
abbrev pub Links : List ℕ → ℕ → ℕ → ℕ → List ℕ → Type 0
Links mem w n i [] = i ≡ 0
Links mem w n i (x ∷ xs) = (i ≡ x) × (1 ≤ x) × (x ≤ n) × Links mem w n (next_at mem w x) xs

-- the record with the key among xs
abbrev pub seek_list : List ℕ → ℕ → List ℕ → ℕ → ℕ → ℕ
seek_list mem w [] c p = 0
seek_list mem w (x ∷ xs) c p = cond (has_key mem w x c p) x (seek_list mem w xs c p)

-- x is not among the records
abbrev pub Fresh : ℕ → List ℕ → Type 0
Fresh x [] = Unit {0}
Fresh x (y ∷ ys) = (y ≢ x) × Fresh x ys

-- no record stands twice
abbrev pub Apart : List ℕ → Type 0
Apart [] = Unit {0}
Apart (x ∷ xs) = Fresh x xs × Apart xs

abbrev pub Dead : List ℕ → ℕ → List ℕ → Type 0
Dead mem w [] = Unit {0}
Dead mem w (x ∷ xs) = (closing_at mem w x ≡ 0) × Dead mem w xs

abbrev pub Live : List ℕ → ℕ → List ℕ → Type 0
Live mem w [] = Unit {0}
Live mem w (x ∷ xs) = (closing_at mem w x ≢ 0) × Live mem w xs

-- Records 1 to n lie in the chains: chain 0 is the free one, and 1 to 16 are the buckets.
pub record Laid (mem : List ℕ) (w n : ℕ) : Type 0 where
  pub chain : ℕ → List ℕ
  pub links : (j : ℕ) → j < 17 → Links mem w n (head_at mem j) (chain j)
  pub dead : Dead mem w (chain 0)
  pub apart : Apart (chain 0)
  pub live : (j : ℕ) → 1 ≤ j → j < 17 → Live mem w (chain j)
  pub whole : sum_to (λ j. length (chain j)) 17 ≡ n
  pub rooms : length (chain 0) ≡ count_of mem w n 0
  -- a walk finds what is there
  pub scans : (c p : ℕ) → 1 ≤ c → seek_in mem w n c p ≡ scan_at mem w n c p

-- what holds of the records whatever the links
pub record Keys (mem : List ℕ) (w n f l b room : ℕ) : Type 0 where
  -- a key stands once
  pub once : (x : ℕ) → 1 ≤ x → x ≤ n → (closing_at mem w x ≢ 0) → scan_at mem w n (closing_at mem w x) (place_at mem w x) ≡ x
  pub inside : (x : ℕ) → 1 ≤ x → x ≤ n → (closing_at mem w x ≢ 0) → holds_key f l b (closing_at mem w x) (place_at mem w x) ≡ true
  pub free : count_of mem w n 0 ≡ room

pub record Linked (mem : List ℕ) (w n f l b room : ℕ) : Type 0 where
  pub laid : Laid mem w n
  pub keys : Keys mem w n f l b room

-- record y has in mem' the link and the key that it had in mem
pub record SameRecord (mem mem' : List ℕ) (w y : ℕ) : Type 0 where
  pub next : next_at mem' w y ≡ next_at mem w y
  pub closing : closing_at mem' w y ≡ closing_at mem w y
  pub place : place_at mem' w y ≡ place_at mem w y

-- record x went from the front of the free chain to the front of bucket b, and holds r under (c, p)
pub record Pushed (mem mem' : List ℕ) (w n x b c p : ℕ) (r : List ℕ) : Type 0 where
  pub head0 : head_at mem' 0 ≡ next_at mem w x
  pub headb : head_at mem' b ≡ x
  pub heads : (j : ℕ) → j < 17 → (j ≢ 0) → (j ≢ b) → head_at mem' j ≡ head_at mem j
  pub next : next_at mem' w x ≡ head_at mem b
  pub closing : closing_at mem' w x ≡ c
  pub place : place_at mem' w x ≡ p
  pub bytes : part mem' (start_of w x + 12) w ≡ r
  pub others : (y : ℕ) → 1 ≤ y → y ≤ n → (y ≢ x) → SameRecord mem mem' w y
  pub kept : (y : ℕ) → 1 ≤ y → y ≤ n → (y ≢ x) → part mem' (start_of w y + 12) w ≡ part mem (start_of w y + 12) w

-- record x went in front of chain b, with k for its closing
pub record Fronted (mem mem' : List ℕ) (w n x b k : ℕ) : Type 0 where
  pub headb : head_at mem' b ≡ x
  pub heads : (j : ℕ) → j < 17 → (j ≢ b) → head_at mem' j ≡ head_at mem j
  pub next : next_at mem' w x ≡ head_at mem b
  pub closing : closing_at mem' w x ≡ k
  pub place : place_at mem' w x ≡ place_at mem w x
  pub bytes : part mem' (start_of w x + 12) w ≡ part mem (start_of w x + 12) w
  pub others : (y : ℕ) → 1 ≤ y → y ≤ n → (y ≢ x) → SameRecord mem mem' w y
  pub kept : (y : ℕ) → 1 ≤ y → y ≤ n → (y ≢ x) → part mem' (start_of w y + 12) w ≡ part mem (start_of w y + 12) w

-- records 1 to i have forgotten closing c, or every closing, and the n else say what they said
pub record Forgot (mem mem' : List ℕ) (w n i : ℕ) (every : Bool) (c : ℕ) : Type 0 where
  pub done : (y : ℕ) → 1 ≤ y → y ≤ i → closing_at mem' w y ≡ without every c (closing_at mem w y)
  pub left : (y : ℕ) → i < y → y ≤ n → closing_at mem' w y ≡ closing_at mem w y
  pub place : (y : ℕ) → 1 ≤ y → y ≤ n → place_at mem' w y ≡ place_at mem w y
  pub bytes : (y : ℕ) → 1 ≤ y → y ≤ n → part mem' (start_of w y + 12) w ≡ part mem (start_of w y + 12) w
