-- What it says that a call's table of refusals has no row that holds.
use Rattle.std.proofs.Common.{◌≡◌, ℕ, ◌+◌, ◌-◌, ◌^◌, ◌<◌, ◌≤◌, Bool, true, false, cond, not, ◌&&◌, ◌||◌, T, eqb, ltb, leb, List, [], ◌∷◌, ◌++◌, length, is_some, Some, None, Option, unwrap_or, sym, refl, arith}
use Rattle.std.specs.List.{slice_get}
use Rattle.std.proofs.lemmas.Bool.{not-false, and_parts, or_parts, eqb-true, leb-false, ltb-false}
use Rattle.octets.proofs.Passes.{T_true}
use Rattle.refusal.specs.declared.cases.Refusal.{Refusal}
use Rattle.refusal.specs.declared.cases.Refusal.TheVariants.{BadLimits, AlreadyStands, EightStand, StoreUnsuited, Full, BadIdentity, LeavesTaken, JoinUnwritable, NotStanding, BufferTooShort}
use Rattle.amount.specs.Kinds.{Kind}
use Rattle.tree.specs.Trees.{bad_limits, balances_total}
use Rattle.file.specs.Layout.{file_length}
use Rattle.client.specs.Suits.{suits}
use Rattle.closing.specs.Closings.{Closing, State, stands, no_lines, line, no_line, ledger_of, standing_of, line_of, open_refusal, enter_refusal, write_refusal, issue_refusal, withdraw_refusal}
use Rattle.closing.proofs.Stands.{no_some, is_none}

-- the first row does not hold, nor does any other
pub past : (b : Bool) (r : Refusal) (rest : Option Refusal) → cond b (Some r) rest ≡ None → (b ≡ false) × (rest ≡ None)
past true r rest e = no_some (sym e)
past false r rest e = (refl, e)

-- what is there is the value, whatever it would be otherwise
pub value_is : {X : Type 0} (o : Option X) (d : X) → is_some o ≡ true → o ≡ Some (unwrap_or o d)
value_is None d e = absurd (let z : ◌≡◌ {A = ℕ} 0 1 = cc in omega arith)
value_is (Some x) d e = refl

pub record Opens (k : Kind) (s : State) (n depth : ℕ) : Type 0 where
  pub limits_good : bad_limits n depth ≡ false
  pub apart : stands n s.standing ≡ None
  pub few : length s.standing < 8
  pub nodes_suit : suits s.nodes.start (32 + k.width) n depth ≡ true
  pub leaves_suit : suits s.leaves.start (37 + k.width) n depth ≡ true
  pub nodes_room : 2 ^ (depth + 1) - 1 ≤ s.nodes.room + s.nodes.held_of n
  pub leaves_room : 2 ^ depth ≤ s.leaves.room + s.leaves.held_of n

pub opens : (k : Kind) (s : State) (n depth : ℕ) → open_refusal k s n depth ≡ None → Opens k s n depth
opens k s n depth e =
    let suit = suits s.nodes.start (32 + k.width) n depth in
    let suit_too = suits s.leaves.start (37 + k.width) n depth in
    let room = s.nodes.room + s.nodes.held_of n in
    let room_too = s.leaves.room + s.leaves.held_of n in
    let a = past (bad_limits n depth) BadLimits _ e in
    let b = past (is_some (stands n s.standing)) AlreadyStands _ a.1 in
    let c = past (leb 8 (length s.standing)) EightStand _ b.1 in
    let d = past (not (suit && suit_too)) StoreUnsuited _ c.1 in
    let f = past (ltb room (2 ^ (depth + 1) - 1) || ltb room_too (2 ^ depth)) Full _ d.1 in
    let both = and_parts suit suit_too (not-false (suit && suit_too) d.0) in
    let rooms = or_parts (ltb room (2 ^ (depth + 1) - 1)) (ltb room_too (2 ^ depth)) f.0 in
    record {
      limits_good = a.0;
      apart = is_none (stands n s.standing) b.0;
      few = leb-false 8 (length s.standing) c.0;
      nodes_suit = both.0;
      leaves_suit = both.1;
      nodes_room = ltb-false room (2 ^ (depth + 1) - 1) rooms.0;
      leaves_room = ltb-false room_too (2 ^ depth) rooms.1;
    }

pub record Enters (k : Kind) (c : Closing) (customer salt balance : List ℕ) : Type 0 where
  pub customer_long : length customer ≡ 16
  pub salt_long : length salt ≡ 16
  pub leaf_free : length c.lines < 2 ^ c.depth
  pub total_writable : T (k.writable (balances_total k (c.lines ++ (line customer salt balance ∷ []))))

pub enters : (k : Kind) (c : Closing) (customer salt balance : List ℕ) → enter_refusal k c customer salt balance ≡ None → Enters k c customer salt balance
enters k c customer salt balance e =
    let all = k.writable (balances_total k (c.lines ++ (line customer salt balance ∷ []))) in
    let a = past (not (eqb (length customer) 16 && eqb (length salt) 16)) BadIdentity _ e in
    let b = past (leb (2 ^ c.depth) (length c.lines)) LeavesTaken _ a.1 in
    let d = past (not all) (JoinUnwritable 0) _ b.1 in
    let both = and_parts (eqb (length customer) 16) (eqb (length salt) 16) (not-false (eqb (length customer) 16 && eqb (length salt) 16) a.0) in
    record {
      customer_long = eqb-true (length customer) 16 both.0;
      salt_long = eqb-true (length salt) 16 both.1;
      leaf_free = leb-false (2 ^ c.depth) (length c.lines) b.0;
      total_writable = T_true all (not-false all d.0);
    }

pub ledger_is : (s : State) → is_some s.ledger ≡ true → s.ledger ≡ Some (ledger_of s)
ledger_is s e = value_is s.ledger (no_lines 0 0) e

pub standing_is : (s : State) (n : ℕ) → is_some (stands n s.standing) ≡ true → stands n s.standing ≡ Some (standing_of s n)
standing_is s n e = value_is (stands n s.standing) (no_lines n 0) e

-- a closing is withdrawn, and its sheet is written, where it stands
pub withdraws : (k : Kind) (s : State) (n : ℕ) → withdraw_refusal k s n ≡ None → stands n s.standing ≡ Some (standing_of s n)
withdraws k s n e = standing_is s n (not-false (is_some (stands n s.standing)) (past (not (is_some (stands n s.standing))) NotStanding _ e).0)

pub writes : (k : Kind) (s : State) (n size : ℕ) → write_refusal k s n size ≡ None → (stands n s.standing ≡ Some (standing_of s n)) × (39 + k.width ≤ size)
writes k s n size e =
    let a = past (not (is_some (stands n s.standing))) NotStanding _ e in
    let b = past (ltb size (39 + k.width)) BufferTooShort _ a.1 in
    (standing_is s n (not-false (is_some (stands n s.standing)) a.0), ltb-false size (39 + k.width) b.0)

-- where a line of it is found, the closing stands
line_stands : (o : Option Closing) (n leaf : ℕ) → is_some (slice_get (unwrap_or o (no_lines n 0)).lines leaf) ≡ true → is_some o ≡ true
line_stands None n leaf e = e
line_stands (Some c) n leaf e = refl

pub record Issues (k : Kind) (s : State) (n leaf size : ℕ) : Type 0 where
  pub stands_there : stands n s.standing ≡ Some (standing_of s n)
  pub line_there : slice_get (standing_of s n).lines leaf ≡ Some (unwrap_or (line_of s n leaf) no_line)
  pub buffer_long : file_length k.width (standing_of s n).depth ≤ size

pub issues : (k : Kind) (s : State) (n leaf size : ℕ) → issue_refusal k s n leaf size ≡ None → Issues k s n leaf size
issues k s n leaf size e =
    let a = past (not (is_some (line_of s n leaf))) NotStanding _ e in
    let b = past (ltb size (file_length k.width (standing_of s n).depth)) BufferTooShort _ a.1 in
    let found = not-false (is_some (line_of s n leaf)) a.0 in
    record {
      stands_there = standing_is s n (line_stands (stands n s.standing) n leaf found);
      line_there = value_is (line_of s n leaf) no_line found;
      buffer_long = ltb-false size (file_length k.width (standing_of s n).depth) b.0;
    }
