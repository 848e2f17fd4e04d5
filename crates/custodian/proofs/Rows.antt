-- The tables of refusals, from what the code found.
use Rattle.std.proofs.Common.{◌≡◌, ℕ, ◌+◌, ◌^◌, ◌<◌, ◌≤◌, Bool, true, false, cond, not, ◌&&◌, ◌||◌, eqb, leb, List, [], ◌∷◌, ◌++◌, length, is_some, IsErrAnd, IfOk, Some, None, Ok, Err, Option, Result, sym, refl, ap, ◌∙◌, inl, inr, arith}
use lib.ListN.{length-map}
use Rattle.std.specs.Option.{option_map}
use Rattle.std.proofs.lemmas.Bool.{both_ways, lt-leb, cases_lt}
use Rattle.refusal.specs.declared.cases.Refusal.TheVariants.{BadIdentity, LeavesTaken, JoinUnwritable}
use Rattle.refusal.specs.Tables.{◌⇒◌, first}
use Rattle.octets.proofs.Passes.{true_T, both_in, eqb_in}
use Rattle.amount.specs.Kinds.{Kind, Laws, join_refusal}
use Rattle.node.specs.Texts.{Line}
use Rattle.tree.specs.Trees.{balances_total}
use Rattle.digest.specs.Hashes.{Hash}
use Rattle.store.specs.Meaning.{Meaning}
use Rattle.store.specs.Counts.{held}
use Rattle.client.specs.Suits.{suits}
use Rattle.roll.specs.declared.types.Stand.{Stand}
use Rattle.roll.specs.Rolls.{under_number}
use Rattle.roll.specs.Stands.{number_of}
use Rattle.roll.proofs.Rolls.{under_map}
use Rattle.closing.specs.Closings.{Closing, State, stands, line, enter_refusal}
use Rattle.closing.proofs.Fitting.{nodes_suit_now, leaves_suit_now}
use Rattle.custodian.specs.Keeping.{brief, Keeps}

some_mapped : {X Y : Type 0} (f : X → Y) (o : Option X) → is_some (option_map f o) ≡ is_some o
some_mapped f None = refl
some_mapped f (Some x) = refl

module _ {k : Kind} {h : Hash} {nodes leaves : Meaning} {roll : List Stand} {s : State} (keeps : Keeps k h nodes leaves roll s) where
  -- what the roll finds
  pub found : (n : ℕ) → under_number number_of n roll ≡ option_map brief (stands n s.standing)
  found n = ap (under_number number_of n) keeps.roll_is ∙ under_map brief number_of n s.standing

  pub found_some : (n : ℕ) → is_some (under_number number_of n roll) ≡ is_some (stands n s.standing)
  found_some n = ap is_some (found n) ∙ some_mapped brief (stands n s.standing)

  pub how_many : length roll ≡ length s.standing
  how_many = ap length keeps.roll_is ∙ length-map s.standing brief

  pub both_suit : (n depth : ℕ) → suits nodes (32 + k.width) n depth && suits leaves (37 + k.width) n depth
      ≡ suits s.nodes.start (32 + k.width) n depth && suits s.leaves.start (37 + k.width) n depth
  both_suit n depth =
      ap (λ b. b && suits leaves (37 + k.width) n depth) (nodes_suit_now keeps.represents n depth)
      ∙ ap (λ b. suits s.nodes.start (32 + k.width) n depth && b) (leaves_suit_now keeps.represents n depth)

  pub nodes_room_is : (n : ℕ) → nodes.room + held nodes n ≡ s.nodes.room + s.nodes.held_of n
  nodes_room_is n =
      ap (λ x. x + held nodes n) keeps.represents.nodes_counted.room_is ∙ ap (λ x. s.nodes.room + x) (keeps.represents.nodes_counted.held_is n)

  pub leaves_room_is : (n : ℕ) → leaves.room + held leaves n ≡ s.leaves.room + s.leaves.held_of n
  leaves_room_is n =
      ap (λ x. x + held leaves n) keeps.represents.leaves_counted.room_is ∙ ap (λ x. s.leaves.room + x) (keeps.represents.leaves_counted.held_is n)

-- the room of the first store, then that of the second
pub first_short : (r t u : Bool) → r ≡ false → r ≡ not t → not r ≡ t || u
first_short r true u e f = ap not e
first_short r false u e f = absurd (both_ways r e f)

pub second_told : (r q t u : Bool) → r ≡ true → r ≡ not t → q ≡ not u → not q ≡ t || u
second_told r q true u e f g = absurd (both_ways r f e)
second_told r q false true e f g = ap not g
second_told r q false false e f g = ap not g

-- the balance joins the total of the lines before it
pub total_push : {k : Kind} → Laws k → (lines : List Line) (l : Line) → balances_total k (lines ++ (l ∷ [])) ≡ k.join (balances_total k lines) l.balance
total_push {k} laws [] l = laws.join_comm l.balance k.zero
total_push {k} laws (x ∷ lines) l = ap (k.join x.balance) (total_push laws lines l) ∙ sym (laws.join_assoc x.balance (balances_total k lines) l.balance)

-- where the identity is right and a leaf is free, the joining decides
pub by_joining : {k : Kind} → Laws k → (c : Closing) (customer salt balance total : List ℕ) → length customer ≡ 16 → length salt ≡ 16 → length c.lines < 2 ^ c.depth → balances_total k c.lines ≡ total
    → enter_refusal k c customer salt balance ≡ join_refusal k total balance
by_joining {k} laws c customer salt balance total u t free is =
    let last = first ((not (k.writable (balances_total k (c.lines ++ (line customer salt balance ∷ [])))) ⇒ JoinUnwritable 0) ∷ []) in
    ap (λ b. cond b (Some BadIdentity) (cond (leb (2 ^ c.depth) (length c.lines)) (Some LeavesTaken) last))
    (ap not (true_T (eqb (length customer) 16 && eqb (length salt) 16) (both_in (eqb (length customer) 16) (eqb (length salt) 16) (eqb_in (length customer) 16 u) (eqb_in (length salt) 16 t))))
    ∙ ap (λ b. cond b (Some LeavesTaken) last) (lt-leb (2 ^ c.depth) (length c.lines) free)
    ∙ ap (λ x. first ((not (k.writable x) ⇒ JoinUnwritable 0) ∷ [])) (total_push laws c.lines (line customer salt balance) ∙ ap (λ x. k.join x balance) is)

pub unless_ok : {X Y : Type 0} (r : Result X Y) (P : X → Type 0) (Q : Y → Type 0) → IsErrAnd r Q → IfOk r P
unless_ok (Ok x) P Q h = absurd h
unless_ok (Err y) P Q h = tt

-- a leaf that is free is one of a tree of at most 2 ^ 20 leaves
pub low_depth : (depth n count : ℕ) → (depth ≤ 20 → count ≡ 2 ^ depth) → (20 < depth → count ≡ 0) → n < count → (depth ≤ 20) × (n < 2 ^ depth)
low_depth depth n count leaves none l = elim (cases_lt 20 depth) [ inl b ↦ absurd (omega (arith, none b, l)) | inr a ↦ (a, omega (arith, leaves a, l)) ]

-- a closing that the roll has
pub found_closing : (o : Option Closing) (x : Stand) → Some x ≡ option_map brief o → (c : Closing) × (o ≡ Some c) × (x ≡ brief c)
found_closing None x e = absurd (let z : ◌≡◌ {A = ℕ} 0 1 = cc in omega arith)
found_closing (Some c) x e = (c, refl, cc)

pub found_nothing : (o : Option Closing) → ◌≡◌ {A = Option Stand} None (option_map brief o) → o ≡ None
found_nothing None e = refl
found_nothing (Some c) e = absurd (let z : ◌≡◌ {A = ℕ} 0 1 = cc in omega arith)
