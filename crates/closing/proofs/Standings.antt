-- The law over every list of a new custodian's calls.
use Rattle.std.proofs.Common.{◌≡◌, ℕ, ◌+◌, ◌^◌, Bool, true, false, cond, List, [], ◌∷◌, length, take, drop, is_some, Some, None, Option, unwrap_or, sym, refl, ap, ◌∙◌, subst, arith}
use Rattle.std.specs.List.{slice_get}
use Rattle.std.proofs.lemmas.List.{take_at}
use Rattle.refusal.specs.declared.cases.Refusal.{Refusal}
use Rattle.refusal.specs.Tables.{written}
use Rattle.amount.specs.Kinds.{Kind, Laws}
use Rattle.digest.specs.Hashes.{Hash, HashLaws}
use Rattle.node.specs.Texts.{Line}
use Rattle.file.specs.Ledgers.{Ledger}
use Rattle.verify.specs.Checks.{leaf_place}
use Rattle.verify.proofs.Passing.{passes, read, said}
use Rattle.closing.specs.Closings.{Closing, State, Call, Open, Enter, Close, Abandon, Withdraw, Write, Issue, Wrote, Refused, Stopped, new, stands, standing_of, line_of, no_lines, no_line, ledger_of}
use Rattle.closing.specs.Closings.{refusal, write_refusal, issue_refusal, stopped, changed, unless_refused, next, after, sheet_said, file_said, wrote, answered, or_refused, answer}
use Rattle.closing.specs.Holdings.{Good}
use Rattle.closing.specs.Standings.{Lasts, Passes, StandingHolds, StandingsHold}
use Rattle.closing.proofs.Stands.{same_some, stands_more, stands_without}
use Rattle.closing.proofs.Accepted.{writes, issues}
use Rattle.closing.proofs.Goods.{good_new, good_after}
use Rattle.closing.proofs.Records.{balances_fit, leaf_inside, root_writable}

-- a closing stands on until it is withdrawn
module _ (k : Kind) (n : ℕ) (c : Closing) where
  stands_changed : (s : State) (call : Call) → (call ≡ Withdraw n → ⊥) → stands n s.standing ≡ Some c → stands n (changed k s call).standing ≡ Some c
  stands_changed s (Open m depth) other is = is
  stands_changed s (Enter customer salt balance) other is = is
  stands_changed s Close other is = stands_more n s.standing c (ledger_of s) is
  stands_changed s Abandon other is = is
  stands_changed s (Withdraw m) other is = stands_without n m s.standing (λ q. other (ap Withdraw (sym q))) ∙ is
  stands_changed s (Write m buffer) other is = is
  stands_changed s (Issue m leaf buffer) other is = is

  stands_next : (s : State) (call : Call) → (call ≡ Withdraw n → ⊥) → stands n s.standing ≡ Some c → stands n (next k s call).standing ≡ Some c
  stands_next s call other is = which (stopped k s call) (refusal k s call)
    where
      which : (b : Bool) (o : Option Refusal) → stands n (cond b s (unless_refused k o s (changed k s call))).standing ≡ Some c
      which true o = is
      which false (Some why) = is
      which false None = stands_changed s call other is

  pub stands_after : (s : State) (calls : List Call) → Lasts n calls → stands n s.standing ≡ Some c → stands n (after k s calls).standing ≡ Some c
  stands_after s [] lasts is = is
  stands_after s (call ∷ calls) lasts is = stands_after (next k s call) calls lasts.1 (stands_next s call lasts.0 is)

-- the bytes that a call wrote
wrote_bytes : (k : Kind) (h : Hash) (text buffer written_to : List ℕ) (size : ℕ) → wrote k h text buffer ≡ Wrote size written_to → take size written_to ≡ text
wrote_bytes k h text buffer written_to size e =
    let long : length text ≡ size = cc in
    let all : written text buffer ≡ written_to = cc in
    ap (take size) (sym all) ∙ take_at text (drop (length text) buffer) size long

not_wrote : (size : ℕ) (bytes : List ℕ) (why : Refusal) → Refused why ≡ Wrote size bytes → ⊥
not_wrote size bytes why e = let z : ◌≡◌ {A = ℕ} 0 1 = cc in omega arith

module _ (k : Kind) (h : Hash) (s : State) (n : ℕ) where
  -- it wrote a sheet: that of the closing that stands
  pub sheet_written : (before after_sheet : List ℕ) (size : ℕ) → answer k h s (Write n before) ≡ Wrote size after_sheet
      → (stands n s.standing ≡ Some (standing_of s n)) × (take size after_sheet ≡ sheet_said k h (standing_of s n))
  sheet_written before after_sheet size e = which (write_refusal k s n (length before)) refl e
    where
      which : (o : Option Refusal) → write_refusal k s n (length before) ≡ o → or_refused k h o (answered k h s (Write n before)) ≡ Wrote size after_sheet
          → (stands n s.standing ≡ Some (standing_of s n)) × (take size after_sheet ≡ sheet_said k h (standing_of s n))
      which (Some why) free e = absurd (not_wrote size after_sheet why e)
      which None free e = ((writes k s n (length before) free).0, wrote_bytes k h (sheet_said k h (standing_of s n)) before after_sheet size e)

  -- it issued a file: that of a line of the closing that stands
  pub record Issued (leaf : ℕ) (bytes : List ℕ) : Type 0 where
    pub one : Line
    pub stands_there : stands n s.standing ≡ Some (standing_of s n)
    pub line_there : slice_get (standing_of s n).lines leaf ≡ Some one
    pub bytes_are : bytes ≡ file_said k h (standing_of s n) leaf one

  pub file_issued : (leaf : ℕ) (buffer after_file : List ℕ) (long : ℕ) → answer k h s (Issue n leaf buffer) ≡ Wrote long after_file → Issued leaf (take long after_file)
  file_issued leaf buffer after_file long e = which (is_some s.ledger) (issue_refusal k s n leaf (length buffer)) refl e
    where
      one : Line
      one = unwrap_or (line_of s n leaf) no_line

      which : (b : Bool) (o : Option Refusal) → issue_refusal k s n leaf (length buffer) ≡ o → cond b Stopped (or_refused k h o (answered k h s (Issue n leaf buffer))) ≡ Wrote long after_file → Issued leaf (take long after_file)
      which true o free e = absurd (let z : ◌≡◌ {A = ℕ} 0 1 = cc in omega arith)
      which false (Some why) free e = absurd (not_wrote long after_file why e)
      which false None free e =
          let i = issues k s n leaf (length buffer) free in
          record { one = one; stands_there = i.stands_there; line_there = i.line_there; bytes_are = wrote_bytes k h (file_said k h (standing_of s n) leaf one) buffer after_file long e }

-- the file of a line passes under the sheet of its closing
pub closing_passes : {k : Kind} → Laws k → (h : Hash) → HashLaws h → (c : Closing) → Ledger k c.number c.depth c.lines
    → (leaf : ℕ) (l : Line) → slice_get c.lines leaf ≡ Some l → Passes k h (sheet_said k h c) (file_said k h c leaf l) leaf
closing_passes {k} laws h hashes c ledger leaf l is =
    let fit = balances_fit ledger in
    let inside = leaf_inside ledger leaf l is in
    let whole = root_writable ledger laws h in
    let one = ledger.lines_fit leaf l is in
    let back = read laws h hashes c.number c.lines fit c.depth leaf l is inside whole ledger.limits_good one.customer_long one.salt_long in
    let says = said laws h hashes c.number c.lines fit c.depth leaf l is inside whole ledger.limits_good one.customer_long one.salt_long in
    record {
      unrefused = passes laws h hashes c.number c.lines fit c.depth leaf l is inside whole ledger.limits_good one.customer_long one.salt_long;
      place_is = λ t e.
          subst (λ x. leaf_place k x (file_said k h c leaf l) ≡ 2 ^ x.depth + leaf) (same_some (sym back ∙ e)) (ap (λ f. 2 ^ c.depth + f.leaf) says);
    }

module _ {k : Kind} (laws : Laws k) (h : Hash) (hashes : HashLaws h) (s : State) (good : Good k s) (n : ℕ) where
  -- the same closing stands later in the same standing
  pub same_closing : (between : List Call) → Lasts n between → stands n s.standing ≡ Some (standing_of s n) → standing_of (after k s between) n ≡ standing_of s n
  same_closing between lasts is = ap (λ o. unwrap_or o (no_lines n 0)) (stands_after k n (standing_of s n) s between lasts is)

  -- a sheet and a file of one closing
  pub pass : (c : Closing) → stands n s.standing ≡ Some c → (sheet file : List ℕ) (leaf : ℕ) (l : Line) → sheet ≡ sheet_said k h c → slice_get c.lines leaf ≡ Some l → file ≡ file_said k h c leaf l → Passes k h sheet file leaf
  pass c is sheet file leaf l p line q =
      subst (λ x. Passes k h x file leaf) (sym p)
      (subst (λ x. Passes k h (sheet_said k h c) x leaf) (sym q) (closing_passes laws h hashes c (good.standing_fits n c is).ledger leaf l line))

  standing_holds : StandingHolds k h s n
  standing_holds = record {
    sheet_then_file = λ before after_sheet size e between lasts leaf buffer after_file long f.
        let sheet = sheet_written k h s n before after_sheet size e in
        let file = file_issued k h (after k s between) n leaf buffer after_file long f in
        let same = same_closing between lasts sheet.0 in
        pass (standing_of s n) sheet.0 (take size after_sheet) (take long after_file) leaf file.one sheet.1
        (ap (λ c. slice_get c.lines leaf) (sym same) ∙ file.line_there) (file.bytes_are ∙ ap (λ c. file_said k h c leaf file.one) same);
    file_then_sheet = λ leaf buffer after_file long f between lasts before after_sheet size e.
        let file = file_issued k h s n leaf buffer after_file long f in
        let sheet = sheet_written k h (after k s between) n before after_sheet size e in
        let same = same_closing between lasts file.stands_there in
        pass (standing_of s n) file.stands_there (take size after_sheet) (take long after_file) leaf file.one (sheet.1 ∙ ap (sheet_said k h) same) file.line_there file.bytes_are;
    one_sheet = λ b₁ b₂ a₁ a₂ m₁ m₂ between lasts e f.
        let one = sheet_written k h s n b₁ a₁ m₁ e in
        let two = sheet_written k h (after k s between) n b₂ a₂ m₂ f in
        one.1 ∙ ap (sheet_said k h) (sym (same_closing between lasts one.0)) ∙ sym two.1;
  }

pub standings_hold : StandingsHold
standings_hold k laws h hashes nodes leaves calls =
    let good = good_after laws (new nodes leaves) (good_new k nodes leaves) calls in
    (good.few, λ n. standing_holds laws h hashes (after k (new nodes leaves) calls) good n)
