-- Lines, call by call.
use Rattle.std.proofs.Common.{◌≡◌, ℕ, Bool, true, false, cond, not, ◌&&◌, List, [], ◌∷◌, ◌++◌, is_some as option_is_some, Some, None, Option, sym, refl, ap, ◌∙◌, subst, inl, inr, append_assoc, append-nil, arith}
use Rattle.std.proofs.ByRecursion.{All-push}
use Rattle.std.proofs.lemmas.Bool.{both_ways, and_parts, not-true, not-false}
use Rattle.refusal.specs.declared.cases.Refusal.{Refusal}
use Rattle.refusal.specs.declared.cases.Refusal.TheVariants.{NotStanding}
use Rattle.refusal.specs.Tables.{◌⇒◌, first}
use Rattle.amount.specs.Kinds.{Kind}
use Rattle.closing.specs.Closings.{Closing, State, new, stands, with_line, ledger_of, line, Call, Open, Enter, Close, Abandon, Withdraw, Write, Issue, open_refusal, enter_refusal, refusal, stopped, changed, unless_refused, next, after}
use Rattle.closing.specs.Accounts.{unless_turned_down, entered_line, lines_entered, OpenSince, StandsSince, LinesAccount}
use Rattle.closing.proofs.Stands.{no_some, same_some, is_some, is_none, stands_number, stands_either, stood}
use Rattle.closing.proofs.Accepted.{ledger_is}

-- calls of different sorts
abbrev sort : Call → ℕ
sort (Open n depth) = 0
sort (Enter customer salt balance) = 1
sort Close = 2
sort Abandon = 3
sort (Withdraw n) = 4
sort (Write n buffer) = 5
sort (Issue n leaf buffer) = 6

abbrev withdrawn_number : Call → ℕ
withdrawn_number (Open n depth) = 0
withdrawn_number (Enter customer salt balance) = 0
withdrawn_number Close = 0
withdrawn_number Abandon = 0
withdrawn_number (Withdraw n) = n
withdrawn_number (Write n buffer) = 0
withdrawn_number (Issue n leaf buffer) = 0

module _ (k : Kind) where
  pub after_push : (s : State) (calls : List Call) (x : Call) → after k s (calls ++ (x ∷ [])) ≡ next k (after k s calls) x
  after_push s [] x = refl
  after_push s (c ∷ calls) x = after_push (next k s c) calls x

  pub after_append : (s : State) (xs ys : List Call) → after k s (xs ++ ys) ≡ after k (after k s xs) ys
  after_append s [] ys = refl
  after_append s (c ∷ xs) ys = after_append (next k s c) xs ys

  lines_push : (s : State) (calls : List Call) (x : Call) → lines_entered k s (calls ++ (x ∷ [])) ≡ lines_entered k s calls ++ entered_line k (after k s calls) x
  lines_push s [] x = append-nil (entered_line k s x)
  lines_push s (c ∷ calls) x =
      ap (λ l. entered_line k s c ++ l) (lines_push (next k s c) calls x) ∙ sym (append_assoc (entered_line k s c) (lines_entered k (next k s c) calls) (entered_line k (after k (next k s c) calls) x))

  module _ (start : State) (calls : List Call) (x : Call) where
    abbrev s : State
    s = after k start calls

    -- one call more while the ledger is open
    on : (c d : Closing) → (x ≡ Close → ⊥) → (x ≡ Abandon → ⊥) → d.number ≡ c.number → d.depth ≡ c.depth → d.lines ≡ c.lines ++ entered_line k s x → OpenSince k start calls c → OpenSince k start (calls ++ (x ∷ [])) d
    on c d not_close not_abandon en ed el o =
        let open_call : Open c.number c.depth ≡ Open d.number d.depth = ap (λ n. Open n c.depth) (sym en) ∙ ap (Open d.number) (sym ed) in
        let at : after k (next k (after k start o.before) (Open c.number c.depth)) o.since ≡ s = sym (after_append start o.before (Open c.number c.depth ∷ o.since)) ∙ ap (after k start) (sym o.is) in
        record {
          before = o.before;
          since = o.since ++ (x ∷ []);
          is = ap (λ l. l ++ (x ∷ [])) (o.is ∙ ap (λ y. o.before ++ (y ∷ o.since)) open_call) ∙ append_assoc o.before (Open d.number d.depth ∷ o.since) (x ∷ []);
          none_open = o.none_open;
          unrefused = subst (λ n. open_refusal k (after k start o.before) n d.depth ≡ None) (sym en) (subst (λ m. open_refusal k (after k start o.before) c.number m ≡ None) (sym ed) o.unrefused);
          unclosed = All-push (λ (y : Call). (y ≡ Close → ⊥) × (y ≡ Abandon → ⊥)) o.since x o.unclosed (not_close, not_abandon);
          lines_are =
              el ∙ ap (λ l. l ++ entered_line k s x) o.lines_are
              ∙ ap (λ t. lines_entered k (next k (after k start o.before) (Open c.number c.depth)) o.since ++ entered_line k t x) (sym at)
              ∙ sym (lines_push (next k (after k start o.before) (Open c.number c.depth)) o.since x)
              ∙ ap (λ y. lines_entered k (next k (after k start o.before) y) (o.since ++ (x ∷ []))) open_call;
        }

    -- one call more while the closing stands
    later : (c : Closing) → (x ≡ Withdraw c.number → ⊥) → StandsSince k start calls c → StandsSince k start (calls ++ (x ∷ [])) c
    later c lasts o = record {
      before = o.before;
      later = o.later ++ (x ∷ []);
      is = ap (λ l. l ++ (x ∷ [])) o.is ∙ append_assoc o.before (Close ∷ o.later) (x ∷ []);
      was_open = o.was_open;
      lasts = All-push (λ (y : Call). y ≡ Withdraw c.number → ⊥) o.later x o.lasts lasts;
    }

  -- what is known of the calls so far
  pub record Known (start : State) (calls : List Call) : Type 0 where
    pub ledger_known : (c : Closing) → (after k start calls).ledger ≡ Some c → OpenSince k start calls c
    pub standing_known : (n : ℕ) (c : Closing) → stands n (after k start calls).standing ≡ Some c → StandsSince k start calls c

  module _ (start : State) (calls : List Call) (known : Known start calls) where
    abbrev at : State
    at = after k start calls

    -- a call that changes neither the ledger nor what stands
    same_on : (x : Call) → (sort x ≡ 2 → ⊥) → (sort x ≡ 3 → ⊥) → entered_line k at x ≡ [] → (c : Closing) → at.ledger ≡ Some c → OpenSince k start (calls ++ (x ∷ [])) c
    same_on x not_close not_abandon none c e =
        on start calls x c c (λ q. not_close (ap sort q)) (λ q. not_abandon (ap sort q)) refl refl (sym (append-nil c.lines) ∙ ap (λ l. c.lines ++ l) (sym none)) (known.ledger_known c e)

    same_later : (x : Call) → (sort x ≡ 4 → ⊥) → (n : ℕ) (c : Closing) → stands n at.standing ≡ Some c → StandsSince k start (calls ++ (x ∷ [])) c
    same_later x not_withdraw n c e = later start calls x c (λ q. not_withdraw (ap sort q)) (known.standing_known n c e)

    abbrev Next : Call → State → Type 0
    Next x t = ((c : Closing) → t.ledger ≡ Some c → OpenSince k start (calls ++ (x ∷ [])) c) × ((n : ℕ) (c : Closing) → stands n t.standing ≡ Some c → StandsSince k start (calls ++ (x ∷ [])) c)

    same : (x : Call) → (sort x ≡ 2 → ⊥) → (sort x ≡ 3 → ⊥) → (sort x ≡ 4 → ⊥) → entered_line k at x ≡ [] → Next x at
    same x a b c none = (same_on x a b none, same_later x c)

    nothing_open : (x : Call) → option_is_some at.ledger ≡ false → (c : Closing) → at.ledger ≡ Some c → OpenSince k start (calls ++ (x ∷ [])) c
    nothing_open x e c f = absurd (both_ways (option_is_some at.ledger) e (is_some f))

    step : (x : Call) → (b : Bool) → stopped k at x ≡ b → (o : Option Refusal) → refusal k at x ≡ o → Next x (cond b at (unless_refused k o at (changed k at x)))
    step (Open n depth) true f o e = same (Open n depth) (λ z. omega arith) (λ z. omega arith) (λ z. omega arith) refl
    step (Open n depth) false f (Some r) e = same (Open n depth) (λ z. omega arith) (λ z. omega arith) (λ z. omega arith) refl
    step (Open n depth) false f None e = (
      λ c q. subst (OpenSince k start (calls ++ (Open n depth ∷ []))) (same_some q)
          (record { before = calls; since = []; is = refl; none_open = is_none at.ledger f; unrefused = e; unclosed = tt; lines_are = refl }),
      same_later (Open n depth) (λ z. omega arith),
    )
    step (Enter u t b) true f o e =
        same (Enter u t b) (λ z. omega arith) (λ z. omega arith) (λ z. omega arith) (ap (λ x. cond x [] (unless_turned_down k (enter_refusal k (ledger_of at) u t b) (line u t b))) f)
    step (Enter u t b) false f (Some r) e =
        same (Enter u t b) (λ z. omega arith) (λ z. omega arith) (λ z. omega arith)
        (ap (λ x. cond x [] (unless_turned_down k (enter_refusal k (ledger_of at) u t b) (line u t b))) f ∙ ap (λ x. unless_turned_down k x (line u t b)) e)
    step (Enter u t b) false f None e =
        let there = ledger_is at (and_parts (option_is_some at.ledger) (k.writable b) (not-false (option_is_some at.ledger && k.writable b) f)).0 in
        let one : entered_line k at (Enter u t b) ≡ line u t b ∷ [] = ap (λ x. cond x [] (unless_turned_down k (enter_refusal k (ledger_of at) u t b) (line u t b))) f ∙ ap (λ x. unless_turned_down k x (line u t b)) e in (
          λ c q. subst (OpenSince k start (calls ++ (Enter u t b ∷ []))) (same_some q)
              (on start calls (Enter u t b) (ledger_of at) (with_line (ledger_of at) (line u t b)) (λ z. let y = ap sort z in omega arith) (λ z. let y = ap sort z in omega arith) refl refl
              (ap (λ l. (ledger_of at).lines ++ l) (sym one)) (known.ledger_known (ledger_of at) there)),
          same_later (Enter u t b) (λ z. omega arith),
        )
    step Close true f o e = (nothing_open Close (not-true (option_is_some at.ledger) f), same_later Close (λ z. omega arith))
    step Close false f (Some r) e = no_some e
    step Close false f None e =
        let there = ledger_is at (not-false (option_is_some at.ledger) f) in (
          λ c q. no_some q,
          λ n c q. elim (stands_either n at.standing (ledger_of at) c q) [
            | inl old ↦ same_later Close (λ z. omega arith) n c old
            | inr it ↦ subst (StandsSince k start (calls ++ (Close ∷ []))) it.1 (record { before = calls; later = []; is = refl; was_open = known.ledger_known (ledger_of at) there; lasts = tt })
          ],
        )
    step Abandon true f o e = (nothing_open Abandon (not-true (option_is_some at.ledger) f), same_later Abandon (λ z. omega arith))
    step Abandon false f (Some r) e = no_some e
    step Abandon false f None e = (λ c q. no_some q, same_later Abandon (λ z. omega arith))
    step (Withdraw n) true f o e = absurd (both_ways false refl f)
    step (Withdraw n) false f (Some r) e = (
      same_on (Withdraw n) (λ z. omega arith) (λ z. omega arith) refl,
      λ m c q. later start calls (Withdraw n) c (λ z.
          let number : n ≡ c.number = ap withdrawn_number z in
          let there : stands n at.standing ≡ Some c = ap (λ i. stands i at.standing) (number ∙ stands_number m at.standing c q) ∙ q in
          no_some (sym (ap (λ o. first ((not (option_is_some o) ⇒ NotStanding) ∷ [])) there) ∙ e)) (known.standing_known m c q),
    )
    step (Withdraw n) false f None e = (
      same_on (Withdraw n) (λ z. omega arith) (λ z. omega arith) refl,
      λ m c q.
          let was = stood m n at.standing c q in
          later start calls (Withdraw n) c (λ z. was.0 (sym (ap withdrawn_number z ∙ stands_number m at.standing c was.1))) (known.standing_known m c was.1),
    )
    step (Write n buffer) true f o e = absurd (both_ways false refl f)
    step (Write n buffer) false f (Some r) e = same (Write n buffer) (λ z. omega arith) (λ z. omega arith) (λ z. omega arith) refl
    step (Write n buffer) false f None e = same (Write n buffer) (λ z. omega arith) (λ z. omega arith) (λ z. omega arith) refl
    step (Issue n leaf buffer) true f o e = same (Issue n leaf buffer) (λ z. omega arith) (λ z. omega arith) (λ z. omega arith) refl
    step (Issue n leaf buffer) false f (Some r) e = same (Issue n leaf buffer) (λ z. omega arith) (λ z. omega arith) (λ z. omega arith) refl
    step (Issue n leaf buffer) false f None e = same (Issue n leaf buffer) (λ z. omega arith) (λ z. omega arith) (λ z. omega arith) refl

    known_more : (x : Call) → Known start (calls ++ (x ∷ []))
    known_more x =
        let both = step x (stopped k at x) refl (refusal k at x) refl in
        let e = after_push start calls x in
        record { ledger_known = λ c q. both.0 c (ap (λ t. t.ledger) (sym e) ∙ q); standing_known = λ n c q. both.1 n c (ap (λ t. stands n t.standing) (sym e) ∙ q) }

  known_all : (start : State) (calls more : List Call) → Known start calls → Known start (calls ++ more)
  known_all start calls [] known = subst (Known start) (sym (append-nil calls)) known
  known_all start calls (x ∷ more) known = subst (Known start) (append_assoc calls (x ∷ []) more) (known_all start (calls ++ (x ∷ [])) more (known_more start calls known x))

pub lines_account : LinesAccount
lines_account k nodes leaves calls =
    let known = known_all k (new nodes leaves) [] calls (record { ledger_known = λ c e. no_some e; standing_known = λ n c e. no_some e }) in
    (known.ledger_known, λ n c e. (stands_number n (after k (new nodes leaves) calls).standing c e, known.standing_known n c e))
