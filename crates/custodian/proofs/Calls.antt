-- What each call leads to, over plain meanings.
use Rattle.std.proofs.Common.{◌≡◌, ℕ, ◌+◌, ◌^◌, ◌<◌, true, false, cond, not, ◌&&◌, T, List, [], ◌∷◌, ◌++◌, map, length, is_some as option_is_some, Some, None, unwrap_or, sym, refl, ap, ◌∙◌, subst, arith, length-append}
use Rattle.std.proofs.lemmas.List.{map-append}
use Rattle.refusal.specs.declared.cases.Refusal.{Refusal}
use Rattle.refusal.specs.declared.cases.Refusal.TheVariants.{NotStanding}
use Rattle.refusal.specs.Tables.{◌⇒◌, first}
use Rattle.amount.specs.Kinds.{Kind, Laws, join_refusal}
use Rattle.digest.specs.Hashes.{Hash}
use Rattle.node.specs.Texts.{Line, node_bytes, leaf_node, leaf_text}
use Rattle.tree.specs.Trees.{balances_total}
use Rattle.octets.proofs.Passes.{true_T}
use Rattle.store.specs.Meaning.{Meaning, in_span}
use Rattle.store.specs.Calls.{put_refusal, Cleared, Put}
use Rattle.store.proofs.Refusals.{held_open}
use Rattle.roll.specs.declared.types.Stand.{Stand}
use Rattle.roll.specs.Rolls.{without_number}
use Rattle.roll.specs.Stands.{number_of}
use Rattle.roll.proofs.Rolls.{without_map}
use Rattle.closing.specs.Closings.{Closing, State, stands, no_lines, ledger_of, Call, Open, Enter, Close, Abandon, Withdraw, with_line, line, Opened, Entered, Withdrawn, Refused, Stopped, open_refusal, enter_refusal, withdraw_refusal, refusal, stopped, opened, withdrawn, abandoned, closed, entered, changed, unless_refused, next, or_refused, answered, answer}
use Rattle.closing.specs.Holdings.{Represents}
use Rattle.closing.proofs.Accepted.{withdraws, enters}
use Rattle.closing.proofs.Fitting.{opening_clear, standing_clear, open_clear, open_put_node, open_put_text}
use Rattle.closing.proofs.Steps.{represents_opened, represents_withdrawn, represents_abandoned, represents_entered}
use Rattle.grow.specs.Growing.{IsClosing, Ripe, Grown}
use Rattle.grow.proofs.Closes.{ripe, represents_closed}
use Rattle.custodian.proofs.Rows.{how_many, total_push, by_joining}
use Rattle.custodian.specs.Keeping.{brief, Keeps, KeepsOpen}

module _ (k : Kind) (h : Hash) (s : State) (call : Call) (goes : stopped k s call ≡ false) where
  -- a call that is not refused, and one that is
  pub done : refusal k s call ≡ None → (answer k h s call ≡ answered k h s call) × (next k s call ≡ changed k s call)
  done e = (
    ap (λ b. cond b Stopped (or_refused k h (refusal k s call) (answered k h s call))) goes ∙ ap (λ o. or_refused k h o (answered k h s call)) e,
    ap (λ b. cond b s (unless_refused k (refusal k s call) s (changed k s call))) goes ∙ ap (λ o. unless_refused k o s (changed k s call)) e,
  )

  pub denied : (r : Refusal) → refusal k s call ≡ Some r → (answer k h s call ≡ Refused r) × (next k s call ≡ s)
  denied r e = (
    ap (λ b. cond b Stopped (or_refused k h (refusal k s call) (answered k h s call))) goes ∙ ap (λ o. or_refused k h o (answered k h s call)) e,
    ap (λ b. cond b s (unless_refused k (refusal k s call) s (changed k s call))) goes ∙ ap (λ o. unless_refused k o s (changed k s call)) e,
  )

module _ {k : Kind} {h : Hash} {nodes leaves : Meaning} {roll : List Stand} {s : State} (keeps : Keeps k h nodes leaves roll s) where
  abbrev Spans : ℕ → Type 0
  Spans n = (in_span nodes n ≡ true) × (in_span leaves n ≡ true)

  module _ (n depth : ℕ) (shut : s.ledger ≡ None) (e : open_refusal k s n depth ≡ None) where
    pub open_done : (answer k h s (Open n depth) ≡ Opened) × (next k s (Open n depth) ≡ opened k s n depth)
    open_done = done k h s (Open n depth) (ap option_is_some shut) e

    pub open_spans : Spans n
    open_spans = let p = opening_clear keeps.represents n depth e in (held_open nodes n p.0, held_open leaves n p.1)

    pub keeps_opened : {nodes' leaves' : Meaning} {roll' : List Stand} → Laws k → Cleared nodes nodes' n → Cleared leaves leaves' n → roll' ≡ roll → (total : List ℕ) → total ≡ k.zero
        → KeepsOpen k h nodes' leaves' roll' n depth 0 total (next k s (Open n depth))
    keeps_opened {nodes'} {leaves'} laws a b r total z = record {
      keeps = record { represents = subst (Represents k h nodes' leaves') (sym open_done.1) (represents_opened keeps.represents n a b laws depth e); roll_is = r ∙ keeps.roll_is ∙ ap (λ t. map brief t.standing) (sym open_done.1) };
      ledger = no_lines n depth;
      ledger_is = ap (λ t. t.ledger) open_done.1;
      number_is = refl;
      depth_is = refl;
      lines_are = refl;
      total_is = sym z;
    }

  module _ (n : ℕ) (there : option_is_some (stands n s.standing) ≡ true) where
    accepted : withdraw_refusal k s n ≡ None
    accepted = ap (λ b. first ((not b ⇒ NotStanding) ∷ [])) there

    pub withdraw_done : (answer k h s (Withdraw n) ≡ Withdrawn) × (next k s (Withdraw n) ≡ withdrawn k s n)
    withdraw_done = done k h s (Withdraw n) refl accepted

    pub withdraw_spans : Spans n
    withdraw_spans = let p = standing_clear keeps.represents n _ (withdraws k s n accepted) in (held_open nodes n p.0, held_open leaves n p.1)

    pub keeps_withdrawn : {nodes' leaves' : Meaning} {roll' : List Stand} → Cleared nodes nodes' n → Cleared leaves leaves' n → roll' ≡ without_number number_of n roll
        → Keeps k h nodes' leaves' roll' (next k s (Withdraw n))
    keeps_withdrawn {nodes'} {leaves'} a b r = record {
      represents = subst (Represents k h nodes' leaves') (sym withdraw_done.1) (represents_withdrawn keeps.represents n a b _ (withdraws k s n accepted));
      roll_is = r ∙ ap (without_number number_of n) keeps.roll_is ∙ without_map brief number_of n s.standing ∙ ap (λ t. map brief t.standing) (sym withdraw_done.1);
    }

-- with a ledger open
module _ {k : Kind} {h : Hash} {nodes leaves : Meaning} {roll : List Stand} {number depth lines : ℕ} {total : List ℕ} {s : State}
    (open' : KeepsOpen k h nodes leaves roll number depth lines total s) where
  abbrev c : Closing
  c = open'.ledger

  represents : Represents k h nodes leaves s
  represents = open'.keeps.represents

  there : option_is_some s.ledger ≡ true
  there = ap option_is_some open'.ledger_is

  pub ledger_there : ledger_of s ≡ c
  ledger_there = ap (λ o. unwrap_or o (no_lines 0 0)) open'.ledger_is

  pub abandon_done : next k s Abandon ≡ abandoned k s c
  abandon_done = (done k h s Abandon (ap not there) refl).1 ∙ ap (abandoned k s) ledger_there

  pub abandon_spans : (in_span nodes number ≡ true) × (in_span leaves number ≡ true)
  abandon_spans =
      let p = open_clear represents c open'.ledger_is in
      (subst (λ n. in_span nodes n ≡ true) open'.number_is (held_open nodes c.number p.0), subst (λ n. in_span leaves n ≡ true) open'.number_is (held_open leaves c.number p.1))

  pub keeps_abandoned : {nodes' leaves' : Meaning} {roll' : List Stand} → Cleared nodes nodes' number → Cleared leaves leaves' number → roll' ≡ roll
      → ((next k s Abandon).ledger ≡ None) × Keeps k h nodes' leaves' roll' (next k s Abandon)
  keeps_abandoned {nodes'} {leaves'} a b e =
      let a' = subst (Cleared nodes nodes') (sym open'.number_is) a in
      let b' = subst (Cleared leaves leaves') (sym open'.number_is) b in (
        ap (λ t. t.ledger) abandon_done,
        record {
          represents = subst (Represents k h nodes' leaves') (sym abandon_done) (represents_abandoned represents c open'.ledger_is a' b');
          roll_is = e ∙ open'.keeps.roll_is ∙ ap (λ t. map brief t.standing) (sym abandon_done);
        },
      )

  pub close_done : next k s Close ≡ closed k s c
  close_done = (done k h s Close (ap not there) refl).1 ∙ ap (closed k s) ledger_there

  pub ripe_now : Ripe k h nodes c
  ripe_now = ripe represents c open'.ledger_is

  pub is_closing : IsClosing c number depth lines
  is_closing = record { number_is = open'.number_is; depth_is = open'.depth_is; lines_are = open'.lines_are }

  pub few_stand : length roll < 8
  few_stand = omega (arith, how_many open'.keeps, represents.good.open_few c open'.ledger_is)

  pub keeps_closed : {nodes' : Meaning} {roll' : List Stand} → Grown k h nodes nodes' c → roll' ≡ roll ++ (record { closing = record { 0 = number }; depth = depth; lines = lines } ∷ [])
      → ((next k s Close).ledger ≡ None) × Keeps k h nodes' leaves roll' (next k s Close)
  keeps_closed {nodes'} g e =
      let stand : record { closing = record { 0 = number }; depth = depth; lines = lines } ≡ brief c =
      ap (λ (n : ℕ). record { closing = record { 0 = n }; depth = depth; lines = lines }) (sym open'.number_is)
      ∙ ap (λ (d : ℕ). record { closing = record { 0 = c.number }; depth = d; lines = lines }) (sym open'.depth_is)
      ∙ ap (λ (l : ℕ). record { closing = record { 0 = c.number }; depth = c.depth; lines = l }) (sym open'.lines_are) in (
        ap (λ t. t.ledger) close_done,
        record {
          represents = subst (Represents k h nodes' leaves) (sym close_done) (represents_closed represents c open'.ledger_is g);
          roll_is = e ∙ ap (λ x. roll ++ (x ∷ [])) stand ∙ ap (λ l. l ++ (brief c ∷ [])) open'.keeps.roll_is ∙ sym (map-append brief s.standing (c ∷ [])) ∙ ap (λ t. map brief t.standing) (sym close_done);
        },
      )

  -- what is to be entered
  pub joining_decides : Laws k → (customer salt balance : List ℕ) → length customer ≡ 16 → length salt ≡ 16 → lines < 2 ^ depth → enter_refusal k (ledger_of s) customer salt balance ≡ join_refusal k total balance
  joining_decides laws customer salt balance u t free =
      ap (λ x. enter_refusal k x customer salt balance) ledger_there
      ∙ by_joining laws c customer salt balance total u t (subst (λ d. length c.lines < 2 ^ d) (sym open'.depth_is) (omega (arith, open'.lines_are, free))) open'.total_is

  pub total_with : Laws k → (customer salt balance : List ℕ) → balances_total k ((ledger_of s).lines ++ (line customer salt balance ∷ [])) ≡ k.join total balance
  total_with laws customer salt balance =
      ap (λ x. balances_total k (x.lines ++ (line customer salt balance ∷ []))) ledger_there ∙ total_push laws c.lines (line customer salt balance) ∙ ap (λ x. k.join x balance) open'.total_is

  module _ (customer salt balance : List ℕ) (w : T (k.writable balance)) where
    abbrev call : Call
    call = Enter customer salt balance

    abbrev new_line : Line
    new_line = line customer salt balance

    goes : stopped k s call ≡ false
    goes = ap (λ b. not (b && k.writable balance)) there ∙ ap not (true_T (k.writable balance) w)

    pub enter_denied : (r : Refusal) → enter_refusal k (ledger_of s) customer salt balance ≡ Some r → (answer k h s call ≡ Refused r) × (next k s call ≡ s)
    enter_denied r e = denied k h s call goes r e

    module _ (e : enter_refusal k (ledger_of s) customer salt balance ≡ None) where
      pub enter_answered : answer k h s call ≡ Entered lines
      enter_answered = (done k h s call goes e).0 ∙ ap Entered (ap (λ x. length x.lines) ledger_there ∙ open'.lines_are)

      next_is : next k s call ≡ entered k s c new_line
      next_is = (done k h s call goes e).1 ∙ ap (λ x. entered k s x new_line) ledger_there

      unrefused : enter_refusal k c customer salt balance ≡ None
      unrefused = subst (λ x. enter_refusal k x customer salt balance ≡ None) ledger_there e

      free : length c.lines < 2 ^ c.depth
      free = (enters k c customer salt balance unrefused).leaf_free

      module _ (p : ℕ) (at : p ≡ 2 ^ depth + lines) where
        place_is : 2 ^ c.depth + length c.lines ≡ p
        place_is = ap (λ d. 2 ^ d + length c.lines) open'.depth_is ∙ ap (λ n. 2 ^ depth + n) open'.lines_are ∙ sym at

        pub enter_puts : (put_refusal nodes number p (32 + k.width) ≡ None) × (put_refusal leaves number p (37 + k.width) ≡ None)
        enter_puts = (
          subst (λ q. put_refusal nodes number q (32 + k.width) ≡ None) place_is
              (subst (λ n. put_refusal nodes n (2 ^ c.depth + length c.lines) (32 + k.width) ≡ None) open'.number_is (open_put_node represents c open'.ledger_is free)),
          subst (λ q. put_refusal leaves number q (37 + k.width) ≡ None) place_is
              (subst (λ n. put_refusal leaves n (2 ^ c.depth + length c.lines) (37 + k.width) ≡ None) open'.number_is (open_put_text represents c open'.ledger_is free)),
        )

        pub keeps_entered : {nodes' leaves' : Meaning} {roll' : List Stand} {total' : List ℕ} → Put nodes nodes' number p (node_bytes k (leaf_node k h number new_line)) → Put leaves leaves' number p (leaf_text k number new_line)
            → roll' ≡ roll → total' ≡ balances_total k ((ledger_of s).lines ++ (new_line ∷ [])) → KeepsOpen k h nodes' leaves' roll' number depth (lines + 1) total' (next k s call)
        keeps_entered {nodes'} {leaves'} a b r t =
            let a' : Put nodes nodes' c.number (2 ^ c.depth + length c.lines) (node_bytes k (leaf_node k h c.number new_line)) =
            subst (λ n. Put nodes nodes' n (2 ^ c.depth + length c.lines) (node_bytes k (leaf_node k h n new_line))) (sym open'.number_is)
            (subst (λ q. Put nodes nodes' number q (node_bytes k (leaf_node k h number new_line))) (sym place_is) a) in
            let b' : Put leaves leaves' c.number (2 ^ c.depth + length c.lines) (leaf_text k c.number new_line) =
            subst (λ n. Put leaves leaves' n (2 ^ c.depth + length c.lines) (leaf_text k n new_line)) (sym open'.number_is)
            (subst (λ q. Put leaves leaves' number q (leaf_text k number new_line)) (sym place_is) b) in
            record {
              keeps = record {
                represents = subst (Represents k h nodes' leaves') (sym next_is) (represents_entered represents c open'.ledger_is customer salt balance w unrefused a' b');
                roll_is = r ∙ open'.keeps.roll_is ∙ ap (λ t. map brief t.standing) (sym next_is);
              };
              ledger = with_line c new_line;
              ledger_is = ap (λ t. t.ledger) next_is;
              number_is = open'.number_is;
              depth_is = open'.depth_is;
              lines_are = omega (arith, length-append c.lines (new_line ∷ []), open'.lines_are);
              total_is = ap (λ x. balances_total k (x.lines ++ (new_line ∷ []))) (sym ledger_there) ∙ sym t;
            }

-- under a digest that stayed
pub same_digest_open : {D : Type 0} (hash : D → Hash) {k : Kind} {nodes leaves : Meaning} {roll : List Stand} {number depth lines : ℕ} {total : List ℕ} {s : State} (d e : D) → e ≡ d
    → KeepsOpen k (hash d) nodes leaves roll number depth lines total s → KeepsOpen k (hash e) nodes leaves roll number depth lines total s
same_digest_open hash {k} {nodes} {leaves} {roll} {number} {depth} {lines} {total} {s} d e q keeps = subst (λ x. KeepsOpen k (hash x) nodes leaves roll number depth lines total s) (sym q) keeps

pub same_digest : {D : Type 0} (hash : D → Hash) {k : Kind} {nodes leaves : Meaning} {roll : List Stand} {s : State} (d e : D) → e ≡ d → Keeps k (hash d) nodes leaves roll s → Keeps k (hash e) nodes leaves roll s
same_digest hash {k} {nodes} {leaves} {roll} {s} d e q keeps = subst (λ x. Keeps k (hash x) nodes leaves roll s) (sym q) keeps
