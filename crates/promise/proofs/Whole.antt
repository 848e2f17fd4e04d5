-- The whole promise.
use Rattle.std.proofs.Common.{◌≡◌, ℕ, List, is_some, Some, None, sym, ap, ◌∙◌, subst}
use Rattle.std.specs.List.{slice_get}
use Rattle.amount.specs.Kinds.{Kind, Laws, total}
use Rattle.digest.specs.Hashes.{Hash, HashLaws}
use Rattle.node.specs.Texts.{Line}
use Rattle.sheet.specs.Layout.{Sheet, sheet_refusal, read_sheet}
use Rattle.sheet.proofs.Back.{reads_back}
use Rattle.file.specs.Layout.{File}
use Rattle.file.specs.Ledgers.{Ledger, ledger_sheet, line_file}
use Rattle.verify.specs.Paths.{file_of}
use Rattle.verify.proofs.Passing.{said, node_digest}
use Rattle.store.specs.Meaning.{Meaning}
use Rattle.closing.specs.Closings.{Closing, State, new, stands, standing_of, after, sheet_said, file_said}
use Rattle.closing.specs.Holdings.{Good}
use Rattle.closing.proofs.Stands.{same_some}
use Rattle.closing.proofs.Accepted.{standing_is}
use Rattle.closing.proofs.Goods.{good_new, good_after}
use Rattle.closing.proofs.Records.{balances_fit, leaf_inside, root_writable}
use Rattle.closing.proofs.Standings.{sheet_written, file_issued, same_closing, pass}
use Rattle.audit.specs.Audits as audits
use Rattle.audit.specs.Promise.{Among, OnlyLines, Agrees}
use Rattle.audit.proofs.Holds.{audit_promise}
use Rattle.audit.proofs.Honest.{honest_audit}
use Rattle.promise.specs.Promise.{SheetWritten, FileIssued, OnlyIssued, EveryLine, StandingHonest, HonestCustodians, Promise}

module _ {k : Kind} (laws : Laws k) {h : Hash} (hashes : HashLaws h) (t : State) (good : Good k t) (n : ℕ) (is : stands n t.standing ≡ Some (standing_of t n)) where
  abbrev c : Closing
  c = standing_of t n

  ledger : Ledger k c.number c.depth c.lines
  ledger = (good.standing_fits n c is).ledger

  -- the sheet and the files are those of the closing that stands
  sheet_is : (sheet : List ℕ) → SheetWritten k h t n sheet → sheet ≡ sheet_said k h c
  sheet_is sheet w =
      w.is ∙ (sheet_written k h (after k t w.between) n w.buffer w.filled w.size w.answered).1
      ∙ ap (sheet_said k h) (same_closing laws h hashes t good n w.between w.lasts is)

  file_is : (leaf : ℕ) (file : List ℕ) → FileIssued k h t n leaf file → (l : Line) × (slice_get c.lines leaf ≡ Some l) × (file ≡ file_said k h c leaf l)
  file_is leaf file w =
      let i = file_issued k h (after k t w.between) n leaf w.buffer w.filled w.size w.answered in
      let same = same_closing laws h hashes t good n w.between w.lasts is in
      (i.one, ap (λ (x : Closing). slice_get x.lines leaf) (sym same) ∙ i.line_there, w.is ∙ i.bytes_are ∙ ap (λ x. file_said k h x leaf i.one) same)

  abbrev own : Sheet
  own = ledger_sheet k h c.number c.lines c.depth

  own_reads : (sheet_refusal k h (sheet_said k h c) ≡ None) × (read_sheet k h (sheet_said k h c) ≡ Some own)
  own_reads = reads_back k laws h own (node_digest laws h hashes c.number c.lines (balances_fit ledger) c.depth 0) (root_writable ledger laws h) ledger.limits_good

  module _ (sheet : List ℕ) (w : SheetWritten k h t n sheet) where
    laid_is : (s : Sheet) → read_sheet k h sheet ≡ Some s → own ≡ s
    laid_is s e = same_some (sym own_reads.1 ∙ ap (read_sheet k h) (sym (sheet_is sheet w)) ∙ e)

    only : (calls : List audits.Call) → OnlyIssued k h t n calls → OnlyLines k h c.number c.depth c.lines calls
    only calls issued bytes among = let i = issued bytes among in let f = file_is i.0 bytes i.1 in (i.0, f.0, f.1, f.2)

    agrees : (nodes leaves : Meaning) (calls : List audits.Call) → OnlyIssued k h t n calls → Agrees k h c.number c.depth c.lines (audits.after k h own nodes leaves audits.laid calls)
    agrees nodes leaves calls issued = honest_audit k laws h hashes c.number c.depth c.lines ledger nodes leaves calls (only calls issued)

    -- a counted file of a leaf is that of its line
    counted_line : (nodes leaves : Meaning) (calls : List audits.Call) → OnlyIssued k h t n calls → (g : File) → Among g (audits.after k h own nodes leaves audits.laid calls).counted
        → (m : ℕ) (l : Line) → slice_get c.lines m ≡ Some l → g.leaf ≡ m → g ≡ line_file k h c.number c.lines c.depth m l
    counted_line nodes leaves calls issued g among m l line leaf =
        let was = (audit_promise k laws h hashes own (record { bytes = sheet_said k h c; unrefused = own_reads.0; is = own_reads.1 }) nodes leaves calls).tally_holds.were_presented g among in
        let i = only calls issued was.bytes was.among in
        let fit = balances_fit ledger in
        let one = ledger.lines_fit i.0 i.1 i.2 in
        let says = said laws h hashes c.number c.lines fit c.depth i.0 i.1 i.2 (leaf_inside ledger i.0 i.1 i.2) (root_writable ledger laws h) ledger.limits_good one.customer_long one.salt_long in
        let it : g ≡ line_file k h c.number c.lines c.depth i.0 i.1 = was.is ∙ ap (file_of k c.depth) i.3 ∙ says in
        let number : i.0 ≡ m = ap (λ (f : File). f.leaf) (sym it) ∙ leaf in
        let same : i.1 ≡ l = same_some (sym i.2 ∙ ap (slice_get c.lines) number ∙ line) in
        it ∙ ap (λ x. line_file k h c.number c.lines c.depth x i.1) number ∙ ap (line_file k h c.number c.lines c.depth m) same

    honest : StandingHonest k h t n sheet
    honest = record {
      passes = λ leaf file w'. let f = file_is leaf file w' in pass laws h hashes t good n c is sheet file leaf f.0 (sheet_is sheet w) f.1 f.2;
      none_shown = λ s e nodes leaves calls issued. subst (λ x. (audits.after k h x nodes leaves audits.laid calls).shown ≡ None) (laid_is s e) (agrees nodes leaves calls issued).none_shown;
      reaches_total = λ s e nodes leaves calls issued every.
          let P : Sheet → Type 0 = λ x. total k (audits.balances (audits.after k h x nodes leaves audits.laid calls).counted) ≡ x.root.amount in
          let every' : EveryLine k h t n (audits.after k h own nodes leaves audits.laid calls).counted =
          subst (λ x. EveryLine k h t n (audits.after k h x nodes leaves audits.laid calls).counted) (sym (laid_is s e)) every in
          subst P (laid_is s e) ((agrees nodes leaves calls issued).reaches_total (λ m l line.
          let g = every' m (ap is_some line) in
          subst (λ f. Among f (audits.after k h own nodes leaves audits.laid calls).counted) (counted_line nodes leaves calls issued g.0 g.1 m l line g.2) g.1));
    }

honest_custodians : HonestCustodians
honest_custodians k laws h hashes nodes leaves calls n there sheet w =
    let t = after k (new nodes leaves) calls in
    let good = good_after laws (new nodes leaves) (good_new k nodes leaves) calls in
    honest laws hashes t good n (standing_is t n there) sheet w

pub promise : Promise
promise = record { whoever_made_the_files = audit_promise; honest_closings = honest_custodians }
