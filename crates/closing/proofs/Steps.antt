-- What the two stores hold, from call to call.
use Rattle.std.proofs.Common.{◌≡◌, ℕ, ◌+◌, ◌^◌, T, List, [], ◌∷◌, length, Some, None, sym, ap, ◌∙◌, inl, inr, arith, length-append}
use Rattle.amount.specs.Kinds.{Kind, Laws}
use Rattle.digest.specs.Hashes.{Hash}
use Rattle.node.specs.Texts.{Line, node_bytes, leaf_text, leaf_node}
use Rattle.tree.specs.Trees.{place}
use Rattle.store.specs.Meaning.{Meaning}
use Rattle.store.specs.Calls.{Put, Cleared}
use Rattle.verify.proofs.Passing.{nth_inside}
use Rattle.closing.specs.Closings.{Closing, State, new, stands, no_lines, with_line, line, open_refusal, enter_refusal, opened, entered, abandoned, withdrawn}
use Rattle.closing.specs.Holdings.{HoldsLines, HoldsTree, HoldsTexts, HoldsLeaves, Represents}
use Rattle.closing.proofs.Stands.{no_some, stood}
use Rattle.closing.proofs.Accepted.{opens, enters}
use Rattle.closing.proofs.Goods.{at_some, nth_either, good_new, good_opened, good_entered, good_abandoned, good_withdrawn}
use Rattle.closing.proofs.Counting.{counted_new, counted_cleared, counted_put}
use Rattle.closing.proofs.Fitting.{leaf_place_inside, node_inside, text_inside}

-- a closing whose keys stay
pub tree_same : {k : Kind} {h : Hash} {m m' : Meaning} {c : Closing} → ((p : ℕ) → m'.find c.number p ≡ m.find c.number p) → HoldsTree k h m c → HoldsTree k h m' c
tree_same {c = c} same t = record {
  nodes_there = λ height n g i. same (place c.depth height n) ∙ t.nodes_there height n g i;
  none_else = λ p o. same p ∙ t.none_else p o;
}

pub lines_same : {said : Line → List ℕ} {m m' : Meaning} {c : Closing} → ((p : ℕ) → m'.find c.number p ≡ m.find c.number p) → HoldsLines said m c → HoldsLines said m' c
lines_same {c = c} same t = record {
  lines_there = λ n l e. same (2 ^ c.depth + n) ∙ t.lines_there n l e;
  none_else = λ p o. same p ∙ t.none_else p o;
}

-- no line yet
lines_none : (said : Line → List ℕ) (m : Meaning) (n depth : ℕ) → ((p : ℕ) → m.find n p ≡ None) → HoldsLines said m (no_lines n depth)
lines_none said m n depth absent = record { lines_there = λ i l e. no_some e; none_else = λ p _. absent p }

-- one more line
lines_put : (said : Line → List ℕ) (m m' : Meaning) (c : Closing) (l : Line) → HoldsLines said m c → Put m m' c.number (2 ^ c.depth + length c.lines) (said l) → HoldsLines said m' (with_line c l)
lines_put said m m' c l t w =
    record {
      lines_there = λ n x e. elim (nth_either c.lines l n x e) [
        | inl r ↦ w.others c.number (2 ^ c.depth + n) (λ _ q. let i = nth_inside c.lines n x r in omega arith) ∙ t.lines_there n x r
        | inr r ↦ ap (λ i. m'.find c.number (2 ^ c.depth + i)) r.0 ∙ w.here ∙ ap (λ y. Some (said y)) r.1
      ];
      none_else = λ p o.
          let long = length-append c.lines (l ∷ []) in
          elim o [
            | inl a ↦ w.others c.number p (λ _ q. omega arith) ∙ t.none_else p (inl a)
            | inr a ↦ w.others c.number p (λ _ q. omega arith) ∙ t.none_else p (inr (omega arith))
          ];
    }

pub represents_new : (k : Kind) (h : Hash) (nodes leaves : Meaning) → Represents k h nodes leaves (new nodes leaves)
represents_new k h nodes leaves = record {
  good = good_new k nodes leaves;
  nodes_counted = counted_new nodes;
  leaves_counted = counted_new leaves;
  trees = λ n c e. no_some e;
  texts = λ n c e. no_some e;
  open_leaves = λ c e. no_some e;
  open_texts = λ c e. no_some e;
}

module _ {k : Kind} {h : Hash} {nodes leaves : Meaning} {s : State} (r : Represents k h nodes leaves s) where
  -- one closing is cleared in both stores, and no other is touched
  module _ {nodes' leaves' : Meaning} (n : ℕ) (a : Cleared nodes nodes' n) (b : Cleared leaves leaves' n) where
    trees_stay : (m : ℕ) (x : Closing) → (m ≡ n → ⊥) → stands m s.standing ≡ Some x → HoldsTree k h nodes' x
    trees_stay m x apart e =
        let number = r.good.number_is m x e in
        tree_same (λ p. a.others x.number p (λ q. apart (sym number ∙ q))) (r.trees m x e)

    texts_stay : (m : ℕ) (x : Closing) → (m ≡ n → ⊥) → stands m s.standing ≡ Some x → HoldsTexts k h leaves' x
    texts_stay m x apart e =
        let number = r.good.number_is m x e in
        lines_same (λ p. b.others x.number p (λ q. apart (sym number ∙ q))) (r.texts m x e)

    pub represents_opened : Laws k → (depth : ℕ) → open_refusal k s n depth ≡ None → Represents k h nodes' leaves' (opened k s n depth)
    represents_opened laws depth e =
        let o = opens k s n depth e in
        let apart : (m : ℕ) (x : Closing) → stands m s.standing ≡ Some x → m ≡ n → ⊥ = λ m x f q. no_some (sym o.apart ∙ ap (λ i. stands i s.standing) (sym q) ∙ f) in
        record {
          good = good_opened r.good laws n depth e;
          nodes_counted = counted_cleared r.nodes_counted a;
          leaves_counted = counted_cleared r.leaves_counted b;
          trees = λ m x f. trees_stay m x (apart m x f) f;
          texts = λ m x f. texts_stay m x (apart m x f) f;
          open_leaves = at_some (HoldsLeaves k h nodes') (no_lines n depth) (lines_none (λ (l : Line). node_bytes k (leaf_node k h n l)) nodes' n depth a.here);
          open_texts = at_some (HoldsTexts k h leaves') (no_lines n depth) (lines_none (leaf_text k n) leaves' n depth b.here);
        }

    pub represents_withdrawn : (c : Closing) → stands n s.standing ≡ Some c → Represents k h nodes' leaves' (withdrawn k s n)
    represents_withdrawn c is =
        let apart : (x : Closing) → s.ledger ≡ Some x → x.number ≡ n → ⊥ = λ x e q. no_some (sym (r.good.open_apart x e) ∙ ap (λ i. stands i s.standing) q ∙ is) in
        record {
          good = good_withdrawn r.good n;
          nodes_counted = counted_cleared r.nodes_counted a;
          leaves_counted = counted_cleared r.leaves_counted b;
          trees = λ m x e. let was = stood m n s.standing x e in trees_stay m x was.0 was.1;
          texts = λ m x e. let was = stood m n s.standing x e in texts_stay m x was.0 was.1;
          open_leaves = λ x e. lines_same (λ p. a.others x.number p (apart x e)) (r.open_leaves x e);
          open_texts = λ x e. lines_same (λ p. b.others x.number p (apart x e)) (r.open_texts x e);
        }

  -- the open ledger
  module _ (c : Closing) (is : s.ledger ≡ Some c) where
    -- no closing that stands has its number
    pub standing_apart : (m : ℕ) (x : Closing) → stands m s.standing ≡ Some x → x.number ≡ c.number → ⊥
    standing_apart m x e q = no_some (sym (r.good.open_apart c is) ∙ ap (λ i. stands i s.standing) (sym q ∙ r.good.number_is m x e) ∙ e)

    pub represents_abandoned : {nodes' leaves' : Meaning} → Cleared nodes nodes' c.number → Cleared leaves leaves' c.number → Represents k h nodes' leaves' (abandoned k s c)
    represents_abandoned {nodes'} {leaves'} a b = record {
      good = good_abandoned r.good c;
      nodes_counted = counted_cleared r.nodes_counted a;
      leaves_counted = counted_cleared r.leaves_counted b;
      trees = λ m x e. tree_same (λ p. a.others x.number p (standing_apart m x e)) (r.trees m x e);
      texts = λ m x e. lines_same (λ p. b.others x.number p (standing_apart m x e)) (r.texts m x e);
      open_leaves = λ x e. no_some e;
      open_texts = λ x e. no_some e;
    }

    -- its next place is free
    pub next_node_free : nodes.find c.number (2 ^ c.depth + length c.lines) ≡ None
    next_node_free = (r.open_leaves c is).none_else (2 ^ c.depth + length c.lines) (inr (omega arith))

    pub next_text_free : leaves.find c.number (2 ^ c.depth + length c.lines) ≡ None
    next_text_free = (r.open_texts c is).none_else (2 ^ c.depth + length c.lines) (inr (omega arith))

    pub represents_entered : {nodes' leaves' : Meaning} (customer salt balance : List ℕ) → T (k.writable balance) → enter_refusal k c customer salt balance ≡ None
        → Put nodes nodes' c.number (2 ^ c.depth + length c.lines) (node_bytes k (leaf_node k h c.number (line customer salt balance)))
        → Put leaves leaves' c.number (2 ^ c.depth + length c.lines) (leaf_text k c.number (line customer salt balance))
        → Represents k h nodes' leaves' (entered k s c (line customer salt balance))
    represents_entered {nodes'} {leaves'} customer salt balance w e a b =
        let l = line customer salt balance in
        let p = 2 ^ c.depth + length c.lines in
        let fits = r.good.open_fits c is in
        let at = leaf_place_inside c.depth (length c.lines) (enters k c customer salt balance e).leaf_free in
        record {
          good = good_entered r.good c is customer salt balance w e;
          nodes_counted = counted_put r.nodes_counted (node_inside r c fits p at.0 at.1) next_node_free a;
          leaves_counted = counted_put r.leaves_counted (text_inside r c fits p at.0 at.1) next_text_free b;
          trees = λ m x f. tree_same (λ q. a.others x.number q (λ same _. standing_apart m x f same)) (r.trees m x f);
          texts = λ m x f. lines_same (λ q. b.others x.number q (λ same _. standing_apart m x f same)) (r.texts m x f);
          open_leaves = at_some (HoldsLeaves k h nodes') (with_line c l) (lines_put (λ (y : Line). node_bytes k (leaf_node k h c.number y)) nodes nodes' c l (r.open_leaves c is) a);
          open_texts = at_some (HoldsTexts k h leaves') (with_line c l) (lines_put (leaf_text k c.number) leaves leaves' c l (r.open_texts c is) b);
        }
