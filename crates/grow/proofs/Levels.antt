-- From one node to the next, and from one level to the next.
use Rattle.std.proofs.Common.{◌≡◌, ℕ, zero, suc, ◌+◌, ◌-◌, ◌*◌, ◌^◌, ◌<◌, ◌≤◌, true, cond, T, List, [], length, get_or, is_some, Some, None, Option, sym, refl, ap, ◌∙◌, subst, inl, inr, arith, pow_mono}
use Rattle.std.specs.List.{slice_get}
use Rattle.std.proofs.lemmas.Option.{slice_get-get_or, slice_get_past}
use Rattle.std.proofs.lemmas.Bool.{cases_eq}
use Rattle.amount.specs.Kinds.{Kind, Laws}
use Rattle.digest.specs.Hashes.{Hash, HashLaws}
use Rattle.node.specs.Texts.{Line, Node, node_bytes, padding_node, inner_node}
use Rattle.tree.specs.Trees.{place, leaf_at, node_at}
use Rattle.tree.proofs.Totals.{root_total}
use Rattle.verify.proofs.Passing.{below, node_digest}
use Rattle.store.specs.Meaning.{Meaning, inside}
use Rattle.store.specs.Calls.{put_refusal, Put}
use Rattle.store.proofs.Refusals.{put_open}
use Rattle.store.proofs.Rooms.{put_room}
use Rattle.client.specs.Suits.{suits}
use Rattle.client.specs.Fetch.{fetched}
use Rattle.client.proofs.Fills.{limits_join}
use Rattle.client.proofs.Fetches.{fetched_open}
use Rattle.closing.specs.Closings.{Closing}
use Rattle.closing.proofs.Goods.{two_powers}
use Rattle.closing.proofs.Counting.{same_limits, suits_same, suits_width, suits_inside}
use Rattle.closing.proofs.Fitting.{place_inside}
use Rattle.grow.specs.Growing.{Whole, Ripe, Grown, Risen}

-- the children of a node stand at twice its place
children : (depth height n : ℕ) → height < depth → (2 * place depth (suc height) n ≡ place depth height (2 * n)) × (2 * place depth (suc height) n + 1 ≡ place depth height (2 * n + 1))
children depth height n h =
    let e : 2 ^ (depth - height) ≡ 2 * 2 ^ (depth - suc height) = ap (λ x. 2 ^ x) (let q : depth - height ≡ depth - suc height + 1 = omega arith in q) ∙ two_powers (depth - suc height) in
    (omega arith, omega arith)

-- places of different heights are apart
pub heights_apart : (depth g height i n : ℕ) → g < height → height ≤ depth → n < 2 ^ (depth - height) → place depth height n < place depth g i
heights_apart depth g height i n l h s =
    let a : 2 ^ (depth - height + 1) ≤ 2 ^ (depth - g) = pow_mono {i = depth - height + 1} {j = depth - g} (omega arith) in
    omega (arith, two_powers (depth - height))

module _ {k : Kind} (laws : Laws k) {h : Hash} (hashes : HashLaws h) {m : Meaning} {c : Closing} (ripe : Ripe k h m c) where
  abbrev node_of : ℕ → ℕ → Node
  node_of = node_at k h c.number c.lines

  fit : (n : ℕ) (l : Line) → slice_get c.lines n ≡ Some l → T (k.writable l.balance)
  fit n l e = (ripe.ledger.lines_fit n l e).balance_writable

  -- every node of the tree has bytes
  pub whole : (height n : ℕ) → height ≤ c.depth → n < 2 ^ (c.depth - height) → Whole k (node_of height n)
  whole height n l s =
      let root : T (k.writable (node_of c.depth 0).amount) =
      subst (λ x. T (k.writable x)) (sym (root_total laws h c.number c.lines fit c.depth ripe.ledger.lines_few)) ripe.ledger.total_writable in
      record {
        digest_long = node_digest laws h hashes c.number c.lines fit height n;
        amount_writable =
            below laws h hashes c.number c.lines fit (c.depth - height) height n s
            (subst (λ x. T (k.writable (node_of x 0).amount)) (let q : c.depth ≡ height + (c.depth - height) = omega arith in q) root);
      }

  module _ {a : Meaning} {height n : ℕ} (risen : Risen k h m a c height n) (high : height ≤ c.depth) where
    suited : suits a (32 + k.width) c.number c.depth ≡ true
    suited = suits_same m a (32 + k.width) c.number c.depth risen.limits ∙ ripe.suit

    within : (g i : ℕ) → g ≤ c.depth → i < 2 ^ (c.depth - g) → inside a c.number (place c.depth g i) ≡ true
    within g i l s = let p = place_inside c.depth g i l s in suits_inside a (32 + k.width) c.number c.depth suited (place c.depth g i) p.0 p.1

    -- the next node can be put
    pub put_next : n < 2 ^ (c.depth - height) → put_refusal a c.number (place c.depth height n) (32 + k.width) ≡ None
    put_next s =
        let up : 2 ^ (c.depth - height + 1) ≤ 2 ^ (c.depth + 1) = pow_mono {i = c.depth - height + 1} {j = c.depth + 1} (omega arith) in
        put_open a c.number (place c.depth height n) (32 + k.width) (within height n high s) (sym (suits_width a (32 + k.width) c.number c.depth suited))
        (λ _. omega (arith, risen.room, ripe.room, two_powers (c.depth - height), s))

    pub risen_more : {b : Meaning} → n < 2 ^ (c.depth - height) → Put a b c.number (place c.depth height n) (node_bytes k (node_of height n)) → Risen k h m b c height (n + 1)
    risen_more {b} s put =
        let other : (p : ℕ) → (p ≡ place c.depth height n → ⊥) → b.find c.number p ≡ a.find c.number p = λ p ne. put.others c.number p (λ _ e. ne e) in
        record {
          limits = limits_join m a b risen.limits put.limits;
          lower = λ g i l t. other (place c.depth g i) (λ e. let q = heights_apart c.depth g height i n l high s in omega arith) ∙ risen.lower g i l t;
          level = λ i t. elim (cases_eq i n) [
            | inl e ↦ ap (λ x. b.find c.number (place c.depth height x)) e ∙ put.here ∙ ap (λ x. Some (node_bytes k (node_of height x))) (sym e)
            | inr ne ↦ other (place c.depth height i) (λ e. ne (omega arith)) ∙ risen.level i (omega (arith, ne))
          ];
          beyond = λ p t. other p (λ e. let q = place_inside c.depth height n high s in omega arith) ∙ risen.beyond p t;
          above = λ p t. other p (λ e. omega arith) ∙ risen.above p t;
          beside = λ i t u. other (place c.depth height i) (λ e. omega arith) ∙ risen.beside i (omega arith) u;
          others = λ d p ne. put.others d p (λ e _. ne e) ∙ risen.others d p ne;
          room =
              let one = ap (λ o. b.room + cond_of o) (risen.beside n (omega arith) s) in
              omega (arith, risen.room, put.room, one);
          held_too = put_room a b c.number (place c.depth height n) (node_bytes k (node_of height n)) (within height n high s) put ∙ risen.held_too;
        }
      where
        cond_of : Option (List ℕ) → ℕ
        cond_of o = cond (is_some o) 0 1

    -- what the code puts, by numbers of its own
    pub raised : {b : Meaning} (x p : ℕ) (bytes : List ℕ) → x ≡ c.number → p ≡ place c.depth height n → bytes ≡ node_bytes k (node_of height n) → n < 2 ^ (c.depth - height)
        → (put_refusal a x p (32 + k.width) ≡ None → Put a b x p bytes) → Risen k h m b c height (n + 1)
    raised {b} x p bytes ex ep eb s put =
        let none : put_refusal a x p (32 + k.width) ≡ None = ap (λ y. put_refusal a y p (32 + k.width)) ex ∙ ap (λ y. put_refusal a c.number y (32 + k.width)) ep ∙ put_next s in
        risen_more s (subst (Put a b c.number (place c.depth height n)) eb (subst (λ y. Put a b c.number y bytes) ep (subst (λ y. Put a b y p bytes) ex (put none))))

    -- the two below the next node of the level above are there
    pub fetched_there : (g i : ℕ) → g < height → i < 2 ^ (c.depth - g) → fetched a c.number (place c.depth g i) (32 + k.width) ≡ Some (node_bytes k (node_of g i))
    fetched_there g i l s =
        fetched_open a c.number (place c.depth g i) (32 + k.width) (within g i (omega arith) s) (sym (suits_width a (32 + k.width) c.number c.depth suited))
        ∙ risen.lower g i l s

  -- what raising a node does, where the two below it are there
  abbrev Raises : Meaning → Meaning → ℕ → ℕ → Type 0
  Raises a b x p = (u v : Node) → Whole k u → Whole k v → fetched a x (2 * p) (32 + k.width) ≡ Some (node_bytes k u) → fetched a x (2 * p + 1) (32 + k.width) ≡ Some (node_bytes k v)
      → T (k.writable (k.join u.amount v.amount)) → put_refusal a x p (32 + k.width) ≡ None → Put a b x p (node_bytes k (inner_node k h u v))

  pub raised_over : {a b : Meaning} (height n x p : ℕ) → 1 ≤ height → height ≤ c.depth → n < 2 ^ (c.depth - height) → Risen k h m a c height n → x ≡ c.number → p ≡ place c.depth height n
      → Raises a b x p → Risen k h m b c height (n + 1)
  raised_over zero n x p low high s risen ex ep raises = absurd (omega arith)
  raised_over {a} {b} (suc g) n x p low high s risen ex ep raises =
      let two = children c.depth g n (omega arith) in
      let e : 2 ^ (c.depth - g) ≡ 2 * 2 ^ (c.depth - suc g) = ap (λ x. 2 ^ x) (let q : c.depth - g ≡ c.depth - suc g + 1 = omega arith in q) ∙ two_powers (c.depth - suc g) in
      let left : 2 * n < 2 ^ (c.depth - g) = omega arith in
      let right : 2 * n + 1 < 2 ^ (c.depth - g) = omega arith in
      let at : (q i : ℕ) → q ≡ place c.depth g i → i < 2 ^ (c.depth - g) → fetched a x q (32 + k.width) ≡ Some (node_bytes k (node_of g i)) =
      λ q i eq t. ap (λ z. fetched a z q (32 + k.width)) ex ∙ ap (λ z. fetched a c.number z (32 + k.width)) eq ∙ fetched_there risen high g i (omega arith) t in
      raised risen high x p (node_bytes k (node_of (suc g) n)) ex ep refl s
      (raises (node_of g (2 * n)) (node_of g (2 * n + 1)) (whole g (2 * n) (omega arith) left) (whole g (2 * n + 1) (omega arith) right)
      (at (2 * p) (2 * n) (ap (λ z. 2 * z) ep ∙ two.0) left) (at (2 * p + 1) (2 * n + 1) (ap (λ z. 2 * z + 1) ep ∙ two.1) right)
      (whole (suc g) n high s).amount_writable)

  -- a level is full
  pub risen_up : {a : Meaning} {height : ℕ} → height < c.depth → Risen k h m a c height (2 ^ (c.depth - height)) → Risen k h m a c (height + 1) 0
  risen_up {a} {height} l risen =
      let e : 2 ^ (c.depth - height) ≡ 2 * 2 ^ (c.depth - (height + 1)) = ap (λ x. 2 ^ x) (let q : c.depth - height ≡ c.depth - (height + 1) + 1 = omega arith in q) ∙ two_powers (c.depth - (height + 1)) in
      record {
        limits = risen.limits;
        lower = λ g i t s. elim (cases_eq g height) [
          | inl q ↦ subst (λ x. i < 2 ^ (c.depth - x) → a.find c.number (place c.depth x i) ≡ Some (node_bytes k (node_of x i))) (sym q) (risen.level i) s
          | inr ne ↦ risen.lower g i (omega (arith, ne)) s
        ];
        level = λ i t. absurd (omega arith);
        beyond = risen.beyond;
        above = λ p t. risen.above p (omega arith);
        beside = λ i t s. risen.above (place c.depth (height + 1) i) (omega arith);
        others = risen.others;
        room =
            let f : 2 ^ (c.depth - (height + 1) + 1) ≡ 2 ^ (c.depth - height) = ap (λ x. 2 ^ x) (let q : c.depth - (height + 1) + 1 ≡ c.depth - height = omega arith in q) in
            omega (arith, risen.room, two_powers (c.depth - height), f);
        held_too = risen.held_too;
      }

  -- the lines are there
  pub risen_lines : Risen k h m m c 0 (length c.lines)
  risen_lines =
      let e : 2 ^ (c.depth - 0) ≡ 2 ^ c.depth = ap (λ x. 2 ^ x) (let q : c.depth - 0 ≡ c.depth = omega arith in q) in
      let e' : 2 ^ (c.depth - 0 + 1) ≡ 2 ^ (c.depth + 1) = ap (λ x. 2 ^ (x + 1)) (let q : c.depth - 0 ≡ c.depth = omega arith in q) in
      let there : (i : ℕ) → m.find c.number (place c.depth 0 i) ≡ m.find c.number (2 ^ c.depth + i) = λ i. ap (λ x. m.find c.number (x + i)) e in
      let blank : Line = record { customer = []; salt = []; balance = [] } in
      record {
        limits = same_limits m;
        lower = λ g i t s. absurd (omega arith);
        level = λ i t.
            let l = slice_get-get_or c.lines i blank t in
            there i ∙ ripe.leaves.lines_there i (get_or c.lines i blank) l ∙ ap (λ o. Some (node_bytes k (leaf_at k h c.number c.lines i o))) (sym l);
        beyond = λ p t. ripe.leaves.none_else p (inr (omega (arith, two_powers c.depth, ripe.ledger.lines_few)));
        above = λ p t. ripe.leaves.none_else p (inl (omega (arith, t, e)));
        beside = λ i t s. there i ∙ ripe.leaves.none_else (2 ^ c.depth + i) (inr (omega arith));
        others = λ d p ne. refl;
        room = omega (arith, e');
        held_too = refl;
      }

  -- the root is there
  pub grown : {a : Meaning} → Risen k h m a c c.depth (2 ^ (c.depth - c.depth)) → Grown k h m a c
  grown {a} risen =
      let one : 2 ^ (c.depth - c.depth) ≡ 1 = ap (λ x. 2 ^ x) (let q : c.depth - c.depth ≡ 0 = omega arith in q) in
      let two : 2 ^ (c.depth - c.depth + 1) ≡ 2 = ap (λ x. 2 ^ x) (let q : c.depth - c.depth + 1 ≡ 1 = omega arith in q) in
      let low : 1 ≤ 2 ^ (c.depth + 1) = pow_mono {i = 0} {j = c.depth + 1} (omega arith) in
      record {
        limits = risen.limits;
        tree = record {
          nodes_there = λ height n l s. elim (cases_eq height c.depth) [
            | inl q ↦ subst (λ x. n < 2 ^ (c.depth - x) → a.find c.number (place c.depth x n) ≡ Some (node_bytes k (node_of x n))) (sym q) (risen.level n) s
            | inr ne ↦ risen.lower height n (omega (arith, ne)) s
          ];
          none_else = λ p which. elim which [ inl t ↦ risen.above p (omega (arith, one, t)) | inr t ↦ risen.beyond p t ];
        };
        others = risen.others;
        room = omega (arith, risen.room, one, two, low);
        held_too = risen.held_too;
      }

  -- the padding node of a leaf that has no line
  pub padding_there : (x i : ℕ) → x ≡ c.number → length c.lines ≤ i → padding_node k h x i ≡ node_of 0 i
  padding_there x i e l = ap (λ y. padding_node k h y i) e ∙ ap (leaf_at k h c.number c.lines i) (sym (slice_get_past c.lines i l))
