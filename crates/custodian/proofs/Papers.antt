-- Sheets and files of closings that stand.
use Rattle.std.proofs.Common.{◌≡◌, ℕ, ◌+◌, ◌<◌, ◌≤◌, cond, not, ltb, List, [], ◌∷◌, length, get_or, is_some, Some, None, Ok, Err, Option, Result, unwrap_or, sym, refl, ap, ◌∙◌, subst, arith}
use Rattle.std.specs.List.{slice_get}
use Rattle.std.proofs.lemmas.Option.{slice_get-get_or, slice_get_past}
use Rattle.refusal.specs.declared.cases.Refusal.{Refusal}
use Rattle.refusal.specs.declared.cases.Refusal.TheVariants.{NotStanding, BufferTooShort}
use Rattle.refusal.specs.Tables.{◌⇒◌, first, written, Answers}
use Rattle.amount.specs.Kinds.{Kind}
use Rattle.digest.specs.Hashes.{Hash}
use Rattle.node.specs.Texts.{Line}
use Rattle.file.specs.Layout.{file_length}
use Rattle.store.specs.Meaning.{Meaning}
use Rattle.roll.specs.declared.types.Stand.{Stand}
use Rattle.roll.specs.Rolls.{under_number}
use Rattle.roll.specs.Stands.{number_of}
use Rattle.closing.specs.Closings.{Closing, State, stands, no_lines, standing_of, line_of, no_line, Write, Issue, Wrote, Refused, Stopped, write_refusal, issue_refusal, sheet_said, file_said, wrote, or_refused, answer}
use Rattle.closing.proofs.Fitting.{nodes_suited, leaves_suited}
use Rattle.press.specs.Standing.{TreeStands, TextsStand}
use Rattle.custodian.specs.Keeping.{brief, told, Keeps}
use Rattle.custodian.proofs.Rows.{found, found_closing, found_nothing}
use Rattle.custodian.proofs.Calls.{denied}

-- what a writer's result stands for
told_wrote : (k : Kind) (h : Hash) (r : Result ℕ Refusal) (table : Option Refusal) (said before after : List ℕ) → Answers r table (λ n. (n ≡ length said) × (after ≡ written said before))
    → told (λ (n : ℕ). Wrote n after) (λ (why : Refusal). why) r ≡ or_refused k h table (wrote k h said before)
told_wrote k h (Ok n) table said before after a =
    ap (λ m. Wrote m after) a.1.0 ∙ ap (Wrote (length said)) a.1.1 ∙ ap (λ o. or_refused k h o (wrote k h said before)) (sym a.0)
told_wrote k h (Err e) table said before after a = ap (λ o. or_refused k h o (wrote k h said before)) (sym a)

-- stores that mean the same
pub same_stores : {k : Kind} {h : Hash} {nodes leaves nodes' leaves' : Meaning} {roll : List Stand} {s : State} → nodes' ≡ nodes → leaves' ≡ leaves → Keeps k h nodes leaves roll s → Keeps k h nodes' leaves' roll s
same_stores {k} {h} {nodes} {leaves} {nodes'} {leaves'} {roll} {s} a b keeps = subst (λ x. Keeps k h x leaves' roll s) (sym a) (subst (λ x. Keeps k h nodes x roll s) (sym b) keeps)

module _ {k : Kind} {h : Hash} {nodes leaves : Meaning} {roll : List Stand} {s : State} (keeps : Keeps k h nodes leaves roll s) (n : ℕ) where
  -- nothing of that number stands
  module _ (e : None ≡ under_number number_of n roll) where
    gone : stands n s.standing ≡ None
    gone = found_nothing (stands n s.standing) (e ∙ found keeps n)

    pub no_sheet : (buffer : List ℕ) → answer k h s (Write n buffer) ≡ Refused NotStanding
    no_sheet buffer = (denied k h s (Write n buffer) refl NotStanding (ap (λ o. first ((not (is_some o) ⇒ NotStanding) ∷ (ltb (length buffer) (39 + k.width) ⇒ BufferTooShort) ∷ [])) gone)).0

    pub no_file : s.ledger ≡ None → (leaf : ℕ) (buffer : List ℕ) → answer k h s (Issue n leaf buffer) ≡ Refused NotStanding
    no_file shut leaf buffer =
        (denied k h s (Issue n leaf buffer) (ap is_some shut) NotStanding
        (ap (λ (o : Option Closing). first ((not (is_some (slice_get (unwrap_or o (no_lines n 0)).lines leaf)) ⇒ NotStanding) ∷ (ltb (length buffer) (file_length k.width (unwrap_or o (no_lines n 0)).depth) ⇒ BufferTooShort) ∷ [])) gone)).0

  -- a closing of that number stands
  module _ (x : Stand) (e : Some x ≡ under_number number_of n roll) where
    abbrev pub there : (c : Closing) × (stands n s.standing ≡ Some c) × (x ≡ brief c)
    there = found_closing (stands n s.standing) x (e ∙ found keeps n)

    abbrev pub c : Closing
    c = there.0

    is : stands n s.standing ≡ Some c
    is = there.1

    pub number_is : c.number ≡ n
    number_is = keeps.represents.good.number_is n c is

    pub depth_is : c.depth ≡ x.depth
    depth_is = ap (λ (y : Stand). y.depth) (sym there.2)

    pub lines_are : length c.lines ≡ x.lines
    lines_are = ap (λ (y : Stand). y.lines) (sym there.2)

    pub tree_stands : TreeStands k h nodes c
    tree_stands = record {
      ledger = (keeps.represents.good.standing_fits n c is).ledger;
      suit = nodes_suited keeps.represents c (keeps.represents.good.standing_fits n c is);
      tree = keeps.represents.trees n c is;
    }

    pub texts_stand : TextsStand k h leaves c
    texts_stand = record { suit = leaves_suited keeps.represents c (keeps.represents.good.standing_fits n c is); texts = keeps.represents.texts n c is }

    standing_is : standing_of s n ≡ c
    standing_is = ap (λ o. unwrap_or o (no_lines n 0)) is

    pub sheet_told : (r : Result ℕ Refusal) (before after : List ℕ)
        → Answers r (first ((ltb (length before) (39 + k.width) ⇒ BufferTooShort) ∷ [])) (λ m. (m ≡ length (sheet_said k h c)) × (after ≡ written (sheet_said k h c) before))
        → told (λ (m : ℕ). Wrote m after) (λ (why : Refusal). why) r ≡ answer k h s (Write n before)
    sheet_told r before after a =
        told_wrote k h r (first ((ltb (length before) (39 + k.width) ⇒ BufferTooShort) ∷ [])) (sheet_said k h c) before after a
        ∙ ap (λ o. or_refused k h o (wrote k h (sheet_said k h c) before)) (sym (ap (λ o. first ((not (is_some o) ⇒ NotStanding) ∷ (ltb (length before) (39 + k.width) ⇒ BufferTooShort) ∷ [])) is))
        ∙ ap (λ y. or_refused k h (write_refusal k s n (length before)) (wrote k h (sheet_said k h y) before)) (sym standing_is)

    -- the leaf was not entered, or it was
    module _ (shut : s.ledger ≡ None) (leaf : ℕ) where
      line_is : line_of s n leaf ≡ slice_get c.lines leaf
      line_is = ap (λ (y : Closing). slice_get y.lines leaf) standing_is

      pub no_leaf : x.lines ≤ leaf → (buffer : List ℕ) → answer k h s (Issue n leaf buffer) ≡ Refused NotStanding
      no_leaf low buffer =
          (denied k h s (Issue n leaf buffer) (ap is_some shut) NotStanding
          (ap (λ o. first ((not (is_some o) ⇒ NotStanding) ∷ (ltb (length buffer) (file_length k.width (standing_of s n).depth) ⇒ BufferTooShort) ∷ [])) (line_is ∙ slice_get_past c.lines leaf (omega (arith, lines_are, low))))).0

      module _ (low : leaf < x.lines) where
        abbrev pub l : Line
        l = get_or c.lines leaf no_line

        pub leaf_there : slice_get c.lines leaf ≡ Some l
        leaf_there = slice_get-get_or c.lines leaf no_line (omega (arith, lines_are, low))

        pub file_told : (r : Result ℕ Refusal) (before after : List ℕ)
            → Answers r (first ((ltb (length before) (file_length k.width x.depth) ⇒ BufferTooShort) ∷ [])) (λ m. (m ≡ length (file_said k h c leaf l)) × (after ≡ written (file_said k h c leaf l) before))
            → told (λ (m : ℕ). Wrote m after) (λ (why : Refusal). why) r ≡ answer k h s (Issue n leaf before)
        file_told r before after a =
            let some : line_of s n leaf ≡ Some l = line_is ∙ leaf_there in
            let deep : (standing_of s n).depth ≡ x.depth = ap (λ (y : Closing). y.depth) standing_is ∙ depth_is in
            let table : issue_refusal k s n leaf (length before) ≡ first ((ltb (length before) (file_length k.width x.depth) ⇒ BufferTooShort) ∷ []) =
            ap (λ o. first ((not (is_some o) ⇒ NotStanding) ∷ (ltb (length before) (file_length k.width (standing_of s n).depth) ⇒ BufferTooShort) ∷ [])) some
            ∙ ap (λ d. first ((ltb (length before) (file_length k.width d) ⇒ BufferTooShort) ∷ [])) deep in
            told_wrote k h r (first ((ltb (length before) (file_length k.width x.depth) ⇒ BufferTooShort) ∷ [])) (file_said k h c leaf l) before after a
            ∙ ap (λ o. or_refused k h o (wrote k h (file_said k h c leaf l) before)) (sym table)
            ∙ ap (λ y. or_refused k h (issue_refusal k s n leaf (length before)) (wrote k h (file_said k h y leaf l) before)) (sym standing_is)
            ∙ ap (λ y. or_refused k h (issue_refusal k s n leaf (length before)) (wrote k h (file_said k h (standing_of s n) leaf y) before)) (ap (λ o. unwrap_or o no_line) (sym some))
            ∙ sym (ap (λ b. cond b Stopped (or_refused k h (issue_refusal k s n leaf (length before)) (wrote k h (file_said k h (standing_of s n) leaf (unwrap_or (line_of s n leaf) no_line)) before))) (ap is_some shut))
