-- The records of a closing that stands, and the steps of a file one by one.
use Rattle.std.proofs.Common.{◌≡◌, ℕ, zero, suc, ◌+◌, ◌-◌, ◌*◌, ◌/◌, ◌^◌, ◌<◌, ◌≤◌, List, ◌++◌, length, drop, Some, sym, refl, ap, ◌∙◌, append_assoc, suc-mul, zero-mul, arith, length-append, pow_pos}
use Rattle.std.specs.List.{slice_get}
use Rattle.refusal.specs.Tables.{written}
use Rattle.octets.specs.BigEndian.{be}
use Rattle.amount.specs.Kinds.{Kind, Laws}
use Rattle.digest.specs.Hashes.{Hash, HashLaws}
use Rattle.node.specs.Texts.{Line, node_bytes, leaf_text}
use Rattle.tree.specs.Trees.{place, node_at}
use Rattle.sheet.specs.Layout.{head}
use Rattle.file.specs.Layout.{steps_bytes}
use Rattle.file.specs.Ledgers.{Ledger, beside, steps_beside}
use Rattle.store.specs.Meaning.{Meaning}
use Rattle.client.specs.Fetch.{fetched}
use Rattle.client.proofs.Fetches.{fetched_open}
use Rattle.closing.specs.Closings.{Closing, sheet_said, file_said}
use Rattle.closing.proofs.Counting.{suits_width, suits_inside}
use Rattle.closing.proofs.Fitting.{leaf_place_inside, place_inside}
use Rattle.closing.proofs.Issuing.{step_low, steps_more}
use Rattle.closing.proofs.Records.{leaf_inside, text_long, tree_node_long}
use Rattle.press.specs.Standing.{TreeStands, TextsStand}

-- the text of a line
pub text_there : {k : Kind} {h : Hash} {m : Meaning} {c : Closing} → TextsStand k h m c → Ledger k c.number c.depth c.lines → (leaf : ℕ) (l : Line) → slice_get c.lines leaf ≡ Some l
    → fetched m c.number (2 ^ c.depth + leaf) (37 + k.width) ≡ Some (leaf_text k c.number l)
text_there {k} {h} {m} {c} t ledger leaf l is =
    let at = leaf_place_inside c.depth leaf (leaf_inside ledger leaf l is) in
    fetched_open m c.number (2 ^ c.depth + leaf) (37 + k.width) (suits_inside m (37 + k.width) c.number c.depth t.suit (2 ^ c.depth + leaf) at.0 at.1) (sym (suits_width m (37 + k.width) c.number c.depth t.suit))
    ∙ t.texts.lines_there leaf l is

module _ {k : Kind} {h : Hash} {m : Meaning} {c : Closing} (t : TreeStands k h m c) where
  -- a node of the tree
  pub node_there : (height n : ℕ) → height ≤ c.depth → n < 2 ^ (c.depth - height) → fetched m c.number (place c.depth height n) (32 + k.width) ≡ Some (node_bytes k (node_at k h c.number c.lines height n))
  node_there height n g i =
      let at = place_inside c.depth height n g i in
      fetched_open m c.number (place c.depth height n) (32 + k.width) (suits_inside m (32 + k.width) c.number c.depth t.suit (place c.depth height n) at.0 at.1) (sym (suits_width m (32 + k.width) c.number c.depth t.suit))
      ∙ t.tree.nodes_there height n g i

  module _ (laws : Laws k) (hashes : HashLaws h) (leaf : ℕ) (low : leaf < 2 ^ c.depth) where
    -- the first steps of a leaf's file
    abbrev steps : ℕ → List ℕ
    steps j = steps_bytes k (steps_beside k h c.number c.lines leaf j 0)

    abbrev step : ℕ → List ℕ
    step j = node_bytes k (node_at k h c.number c.lines j (beside (leaf / 2 ^ j)))

    step_long : (j : ℕ) → j < c.depth → length (step j) ≡ 32 + k.width
    step_long j g = tree_node_long laws hashes t.ledger j (beside (leaf / 2 ^ j)) (omega arith) (step_low c.depth leaf j low g)

    pub steps_long : (j : ℕ) → j ≤ c.depth → length (steps j) ≡ j * (32 + k.width)
    steps_long zero g = sym (zero-mul (32 + k.width))
    steps_long (suc j) g =
        ap (λ x. length (steps x)) (let q : suc j ≡ j + 1 = omega arith in q)
        ∙ ap length (steps_more k h c.number c.lines leaf j)
        ∙ (let q : length (steps j ++ step j) ≡ suc j * (32 + k.width) = omega (arith, length-append (steps j) (step j), steps_long j (omega arith), step_long j (omega arith), suc-mul j (32 + k.width)) in q)

    -- one step more, as the code puts it, by numbers of its own
    pub step_put : (j x p at w : ℕ) (said o out after : List ℕ) → j < c.depth → x ≡ c.number → p ≡ place c.depth j (beside (leaf / 2 ^ j)) → w ≡ 32 + k.width
        → length said ≡ at → out ≡ written (said ++ steps j) o
        → ((said o b : List ℕ) → length said ≡ at + j * w → out ≡ written said o → fetched m x p w ≡ Some b → length b ≡ w → after ≡ written (said ++ b) o)
        → after ≡ written (said ++ steps (j + 1)) o
    step_put j x p at w said o out after g ex ep ew l e put =
        let there : fetched m x p w ≡ Some (step j) =
        ap (λ y. fetched m y p w) ex ∙ ap (λ y. fetched m c.number y w) ep ∙ ap (fetched m c.number (place c.depth j (beside (leaf / 2 ^ j)))) ew
        ∙ node_there j (beside (leaf / 2 ^ j)) (omega arith) (step_low c.depth leaf j low g) in
        let long : length (said ++ steps j) ≡ at + j * w = length-append (said) (steps j) ∙ ap (λ y. y + length (steps j)) l ∙ ap (λ y. at + y) (steps_long j (omega arith) ∙ ap (λ y. j * y) (sym ew)) in
        put (said ++ steps j) o (step j) long e there (step_long j g ∙ sym ew)
        ∙ ap (λ y. written y o) (append_assoc said (steps j) (step j) ∙ ap (λ y. said ++ y) (sym (steps_more k h c.number c.lines leaf j)))

  -- the sheet: its head, and the root behind it, by numbers of the code's own
  pub sheet_put : (laws : Laws k) → HashLaws h → (x d w : ℕ) (o out after : List ℕ) → x ≡ c.number → d ≡ c.depth → w ≡ 32 + k.width → out ≡ written (head k h x d) o
      → ((said o b : List ℕ) → length said ≡ 7 → out ≡ written said o → fetched m x 1 w ≡ Some b → length b ≡ w → after ≡ written (said ++ b) o)
      → after ≡ written (sheet_said k h c) o
  sheet_put laws hashes x d w o out after ex ed ew e put =
      let top : 1 ≡ place c.depth c.depth 0 = (let q : 2 ^ (c.depth - c.depth) ≡ 1 = ap (λ y. 2 ^ y) (let z : c.depth - c.depth ≡ 0 = omega arith in z) in omega arith) in
      let low : 0 < 2 ^ (c.depth - c.depth) = pow_pos (c.depth - c.depth) in
      let there : fetched m x 1 w ≡ Some (node_bytes k (node_at k h c.number c.lines c.depth 0)) =
      ap (λ y. fetched m y 1 w) ex ∙ ap (λ y. fetched m c.number y w) top ∙ ap (fetched m c.number (place c.depth c.depth 0)) ew ∙ node_there c.depth 0 (omega arith) low in
      put (head k h x d) o (node_bytes k (node_at k h c.number c.lines c.depth 0)) refl e there (tree_node_long laws hashes t.ledger c.depth 0 (omega arith) low ∙ sym ew)
      ∙ ap (λ y. written (head k h y d ++ node_bytes k (node_at k h c.number c.lines c.depth 0)) o) ex
      ∙ ap (λ y. written (head k h c.number y ++ node_bytes k (node_at k h c.number c.lines c.depth 0)) o) ed

  -- the file of a line: behind its head and leaf number its text without the first five bytes, and its steps
  module _ {texts : Meaning} (u : TextsStand k h texts c) (laws : Laws k) (hashes : HashLaws h) (leaf : ℕ) (l : Line) (is : slice_get c.lines leaf ≡ Some l) where
    abbrev line_bytes : List ℕ
    line_bytes = l.customer ++ (l.salt ++ k.bytes l.balance)

    line_long : length line_bytes ≡ 32 + k.width
    line_long = let e = text_long laws c.number l (t.ledger.lines_fit leaf l is) in omega (arith, e)

    pub file_put : (x d p w : ℕ) (o out mid after : List ℕ) → x ≡ c.number → d ≡ c.depth → p ≡ 2 ^ c.depth + leaf → w ≡ k.width → out ≡ written (head k h x d ++ be 4 leaf) o
        → ((said o b : List ℕ) → length said ≡ 11 → out ≡ written said o → fetched texts x p (37 + k.width) ≡ Some b → length b ≡ 37 + k.width → mid ≡ written (said ++ drop 5 b) o)
        → ((h' : Hash) (c' : Closing) (said o : List ℕ) → HashLaws h' → TreeStands k h' m c' → c'.number ≡ x → c'.depth ≡ d → length said ≡ 43 + w → mid ≡ written said o
        → after ≡ written (said ++ steps_bytes k (steps_beside k h' c'.number c'.lines leaf d 0)) o)
        → after ≡ written (file_said k h c leaf l) o
    file_put x d p w o out mid after ex ed ep ew e line steps =
        let front = head k h x d ++ be 4 leaf in
        let behind = λ (y : ℕ). steps_bytes k (steps_beside k h c.number c.lines leaf y 0) in
        let there : fetched texts x p (37 + k.width) ≡ Some (leaf_text k c.number l) =
        ap (λ y. fetched texts y p (37 + k.width)) ex ∙ ap (λ y. fetched texts c.number y (37 + k.width)) ep ∙ text_there u t.ledger leaf l is in
        let put : mid ≡ written (front ++ line_bytes) o = line front o (leaf_text k c.number l) refl e there (text_long laws c.number l (t.ledger.lines_fit leaf l is)) in
        let long : length (front ++ line_bytes) ≡ 43 + w = omega (arith, length-append front line_bytes, line_long, ew) in
        let join : line_bytes ++ behind c.depth ≡ l.customer ++ (l.salt ++ (k.bytes l.balance ++ behind c.depth)) =
        append_assoc l.customer (l.salt ++ k.bytes l.balance) (behind c.depth) ∙ ap (λ y. l.customer ++ y) (append_assoc l.salt (k.bytes l.balance) (behind c.depth)) in
        steps h c (front ++ line_bytes) o hashes t (sym ex) (sym ed) long put
        ∙ ap (λ y. written (((head k h y d ++ be 4 leaf) ++ line_bytes) ++ behind d) o) ex
        ∙ ap (λ y. written (((head k h c.number y ++ be 4 leaf) ++ line_bytes) ++ behind y) o) ed
        ∙ ap (λ y. written (head k h c.number c.depth ++ (be 4 leaf ++ y)) o) join
