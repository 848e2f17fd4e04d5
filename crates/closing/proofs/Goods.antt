-- What holds after every list of calls: each call keeps it.
use Rattle.std.proofs.Common.{◌≡◌, ℕ, zero, suc, ◌+◌, ◌-◌, ◌*◌, ◌^◌, ◌<◌, ◌≤◌, Bool, true, false, cond, ◌&&◌, T, ◌⊎◌, List, [], ◌∷◌, ◌++◌, length, is_some, Some, None, Option, refl, ap, ◌∙◌, subst, inl, inr, pow-suc, arith, length-append, pow_pos}
use Rattle.std.specs.List.{slice_get}
use Rattle.std.proofs.lemmas.Bool.{not-false, and_parts}
use Rattle.octets.proofs.Passes.{T_true}
use Rattle.refusal.specs.declared.cases.Refusal.{Refusal}
use Rattle.amount.specs.Kinds.{Kind, Laws}
use Rattle.node.specs.Texts.{Line}
use Rattle.file.specs.Ledgers.{LineFits, Ledger}
use Rattle.store.specs.Meaning.{Meaning}
use Rattle.closing.specs.Closings.{Closing, State, Call, Open, Enter, Close, Abandon, Withdraw, Write, Issue, new, stands, no_lines, with_line, line, ledger_of, open_refusal, enter_refusal, opened, entered, closed, abandoned, withdrawn, refusal, stopped, changed, unless_refused, next, after}
use Rattle.closing.specs.Holdings.{Fits, Good}
use Rattle.closing.proofs.Stands.{no_some, same_some, stands_number, stands_either, length_more, stood, length_without}
use Rattle.closing.proofs.Once.{not_back, once_more, once_without}
use Rattle.closing.proofs.Accepted.{opens, Enters, enters, ledger_is}

-- one more line
pub nth_before : (lines : List Line) (l : Line) (n : ℕ) → n < length lines → slice_get (lines ++ (l ∷ [])) n ≡ slice_get lines n
nth_before [] l n i = absurd (omega arith)
nth_before (x ∷ lines) l zero i = refl
nth_before (x ∷ lines) l (suc n) i = nth_before lines l n (omega arith)

pub nth_last : (lines : List Line) (l : Line) → slice_get (lines ++ (l ∷ [])) (length lines) ≡ Some l
nth_last [] l = refl
nth_last (x ∷ lines) l = nth_last lines l

pub nth_either : (lines : List Line) (l : Line) (n : ℕ) (x : Line) → slice_get (lines ++ (l ∷ [])) n ≡ Some x → (slice_get lines n ≡ Some x) ⊎ ((n ≡ length lines) × (l ≡ x))
nth_either [] l zero x e = inr (refl, same_some e)
nth_either [] l (suc n) x e = no_some e
nth_either (y ∷ lines) l zero x e = inl e
nth_either (y ∷ lines) l (suc n) x e = elim (nth_either lines l n x e) [ inl r ↦ inl r | inr r ↦ inr (ap suc r.0, r.1) ]

-- the place after a tree's last
pub two_powers : (d : ℕ) → 2 ^ (d + 1) ≡ 2 * 2 ^ d
two_powers d = ap (λ x. 2 ^ x) (let e : d + 1 ≡ suc d = omega arith in e) ∙ (let f : 2 ^ suc d ≡ 2 * 2 ^ d = omega (arith, pow-suc 2 d) in f)

-- what holds of the one that is there
pub at_some : {X : Type 0} (P : X → Type 0) (x : X) → P x → (y : X) → ◌≡◌ {A = Option X} (Some x) (Some y) → P y
at_some P x p y e = subst P (same_some e) p

pub good_new : (k : Kind) (nodes leaves : Meaning) → Good k (new nodes leaves)
good_new k nodes leaves = record {
  few = omega arith;
  once = tt;
  number_is = λ n c e. no_some e;
  standing_fits = λ n c e. no_some e;
  open_fits = λ c e. no_some e;
  open_apart = λ c e. no_some e;
  open_few = λ c e. no_some e;
  open_nodes_room = λ c e. no_some e;
  open_leaves_room = λ c e. no_some e;
}

module _ {k : Kind} {s : State} (g : Good k s) where
  pub good_opened : Laws k → (n depth : ℕ) → open_refusal k s n depth ≡ None → Good k (opened k s n depth)
  good_opened laws n depth e =
      let o = opens k s n depth e in
      let empty = no_lines n depth in
      record {
        few = g.few;
        once = g.once;
        number_is = g.number_is;
        standing_fits = g.standing_fits;
        open_fits = at_some (Fits k s.nodes.start s.leaves.start) empty (record {
          ledger = record { limits_good = o.limits_good; lines_few = omega arith; lines_fit = λ m l q. no_some q; total_writable = laws.zero_writable };
          nodes_suit = o.nodes_suit;
          leaves_suit = o.leaves_suit;
        });
        open_apart = at_some (λ (c : Closing). stands c.number s.standing ≡ None) empty o.apart;
        open_few = λ c _. o.few;
        open_nodes_room = at_some (λ (c : Closing). 2 ^ (c.depth + 1) - 1 ≤ s.nodes.room + s.nodes.held_of n + length c.lines) empty (omega (arith, o.nodes_room));
        open_leaves_room = at_some (λ (c : Closing). 2 ^ c.depth ≤ s.leaves.room + s.leaves.held_of n + length c.lines) empty (omega (arith, o.leaves_room));
      }

  -- the open ledger
  module _ (c : Closing) (is : s.ledger ≡ Some c) where
    -- a line that is not refused leaves a ledger that has a sheet
    ledger_more : (customer salt balance : List ℕ) → T (k.writable balance) → Enters k c customer salt balance → Ledger k c.number c.depth (c.lines ++ (line customer salt balance ∷ []))
    ledger_more customer salt balance w o =
        let was = (g.open_fits c is).ledger in
        let l = line customer salt balance in
        record {
          limits_good = was.limits_good;
          lines_few = omega (arith, length-append c.lines (l ∷ []), o.leaf_free);
          lines_fit = λ n x q. elim (nth_either c.lines l n x q) [
            | inl r ↦ was.lines_fit n x r
            | inr r ↦ subst (LineFits k) r.1 (record { customer_long = o.customer_long; salt_long = o.salt_long; balance_writable = w })
          ];
          total_writable = o.total_writable;
        }

    -- there is room for one more line
    pub nodes_left : length c.lines < 2 ^ c.depth → 2 ^ c.depth ≤ s.nodes.room
    nodes_left i = omega (arith, g.open_nodes_room c is, i, two_powers c.depth)

    pub leaves_left : length c.lines < 2 ^ c.depth → 1 ≤ s.leaves.room
    leaves_left i = omega (arith, g.open_leaves_room c is, i)

    pub good_entered : (customer salt balance : List ℕ) → T (k.writable balance) → enter_refusal k c customer salt balance ≡ None → Good k (entered k s c (line customer salt balance))
    good_entered customer salt balance w e =
        let o = enters k c customer salt balance e in
        let l = line customer salt balance in
        let more = with_line c l in
        let was = g.open_fits c is in
        let long = length-append c.lines (l ∷ []) in
        let nodes_more : 2 ^ (c.depth + 1) - 1 ≤ s.nodes.room - 1 + length (c.lines ++ (l ∷ [])) =
        omega (arith, g.open_nodes_room c is, nodes_left o.leaf_free, pow_pos c.depth, long) in
        let leaves_more : 2 ^ c.depth ≤ s.leaves.room - 1 + length (c.lines ++ (l ∷ [])) =
        omega (arith, g.open_leaves_room c is, leaves_left o.leaf_free, long) in
        record {
          few = g.few;
          once = g.once;
          number_is = g.number_is;
          standing_fits = g.standing_fits;
          open_fits = at_some (Fits k s.nodes.start s.leaves.start) more (record {
            ledger = ledger_more customer salt balance w o;
            nodes_suit = was.nodes_suit;
            leaves_suit = was.leaves_suit;
          });
          open_apart = at_some (λ (x : Closing). stands x.number s.standing ≡ None) more (g.open_apart c is);
          open_few = λ _ _. g.open_few c is;
          open_nodes_room = at_some (λ (x : Closing). 2 ^ (x.depth + 1) - 1 ≤ s.nodes.room - 1 + length x.lines) more nodes_more;
          open_leaves_room = at_some (λ (x : Closing). 2 ^ x.depth ≤ s.leaves.room - 1 + length x.lines) more leaves_more;
        }

    pub good_closed : Good k (closed k s c)
    good_closed =
        record {
          few = omega (arith, length_more s.standing c, g.open_few c is);
          once = once_more s.standing c g.once (g.open_apart c is);
          number_is = λ n x e. stands_number n (s.standing ++ (c ∷ [])) x e;
          standing_fits = λ n x e. elim (stands_either n s.standing c x e) [
            | inl r ↦ g.standing_fits n x r
            | inr r ↦ subst (Fits k s.nodes.start s.leaves.start) r.1 (g.open_fits c is)
          ];
          open_fits = λ x e. no_some e;
          open_apart = λ x e. no_some e;
          open_few = λ x e. no_some e;
          open_nodes_room = λ x e. no_some e;
          open_leaves_room = λ x e. no_some e;
        }

  pub good_abandoned : (c : Closing) → Good k (abandoned k s c)
  good_abandoned c = record {
    few = g.few;
    once = g.once;
    number_is = g.number_is;
    standing_fits = g.standing_fits;
    open_fits = λ x e. no_some e;
    open_apart = λ x e. no_some e;
    open_few = λ x e. no_some e;
    open_nodes_room = λ x e. no_some e;
    open_leaves_room = λ x e. no_some e;
  }

  pub good_withdrawn : (n : ℕ) → Good k (withdrawn k s n)
  good_withdrawn n = record {
    few = omega (arith, length_without n s.standing, g.few);
    once = once_without n s.standing g.once;
    number_is = λ m x e. g.number_is m x (stood m n s.standing x e).1;
    standing_fits = λ m x e. g.standing_fits m x (stood m n s.standing x e).1;
    open_fits = g.open_fits;
    open_apart = λ x e. not_back x.number n s.standing (g.open_apart x e);
    open_few = λ x e. omega (arith, length_without n s.standing, g.open_few x e);
    open_nodes_room = λ x e. omega (arith, g.open_nodes_room x e);
    open_leaves_room = λ x e. omega (arith, g.open_leaves_room x e);
  }

module _ {k : Kind} (laws : Laws k) where
  -- a call that is answered
  good_changed : (s : State) → Good k s → (call : Call) → stopped k s call ≡ false → refusal k s call ≡ None → Good k (changed k s call)
  good_changed s g (Open n depth) free e = good_opened g laws n depth e
  good_changed s g (Enter customer salt balance) free e =
      let both = and_parts (is_some s.ledger) (k.writable balance) (not-false (is_some s.ledger && k.writable balance) free) in
      good_entered g (ledger_of s) (ledger_is s both.0) customer salt balance (T_true (k.writable balance) both.1) e
  good_changed s g Close free e = good_closed g (ledger_of s) (ledger_is s (not-false (is_some s.ledger) free))
  good_changed s g Abandon free e = good_abandoned g (ledger_of s)
  good_changed s g (Withdraw n) free e = good_withdrawn g n
  good_changed s g (Write n buffer) free e = g
  good_changed s g (Issue n leaf buffer) free e = g

  pub good_next : (s : State) → Good k s → (call : Call) → Good k (next k s call)
  good_next s g call = which (stopped k s call) refl (refusal k s call) refl
    where
      which : (b : Bool) → stopped k s call ≡ b → (o : Option Refusal) → refusal k s call ≡ o → Good k (cond b s (unless_refused k o s (changed k s call)))
      which true free o e = g
      which false free (Some why) e = g
      which false free None e = good_changed s g call free e

  pub good_after : (s : State) → Good k s → (calls : List Call) → Good k (after k s calls)
  good_after s g [] = g
  good_after s g (c ∷ calls) = good_after (next k s c) (good_next s g c) calls
