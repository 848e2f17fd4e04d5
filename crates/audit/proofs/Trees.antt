-- Places and texts: what one text says of the nodes below it.
use Rattle.std.proofs.Common.{◌≡◌, ℕ, zero, suc, ◌+◌, ◌-◌, ◌*◌, ◌/◌, ◌%◌, ◌^◌, ◌<◌, ◌≤◌, T, eqb, ◌++◌, length, sym, refl, ap, ◌∙◌, subst, ⊎_elim, pow-suc, div-one, add-one, arith, length-append, pow_pos, pow-add, shr-shr}
use native.Mathlib.Nat.{add-div_left, div-eq_of_lt, mul-add-div_right}
use Rattle.std.proofs.lemmas.Bool.{cases_lt, cases_Bool, cond-true, cond-false, cond_both}
use Rattle.amount.specs.Kinds.{Kind, Laws}
use Rattle.digest.specs.Hashes.{Hash, HashLaws}
use Rattle.node.specs.Texts.{Node, node_bytes, inner_text}
use Rattle.sheet.specs.Layout.{Sheet}
use Rattle.file.specs.Layout.{File}
use Rattle.verify.specs.Paths.{step_at, is_left, left, right, path_node}
use Rattle.verify.proofs.Back.{SoundNode}
use Rattle.verify.proofs.Under.{side_under, node_count, digest_long}
use Rattle.audit.specs.Audits.{place_at, text_at}
use Rattle.audit.proofs.Files.{parts, node_apart, Passed}

-- a file's place at a height is its leaf's number there, behind those of the heights above
pub place_is : (depth j n : ℕ) → j ≤ depth → (2 ^ depth + n) / 2 ^ j ≡ 2 ^ (depth - j) + n / 2 ^ j
place_is depth j n h =
    let e : 2 ^ depth ≡ 2 ^ (depth - j) * 2 ^ j = ap (λ m. 2 ^ m) (let q : depth ≡ depth - j + j = omega arith in q) ∙ pow-add 2 (depth - j) j in
    ap (λ m. (m + n) / 2 ^ j) e ∙ mul-add-div_right (pow_pos j) (2 ^ (depth - j)) n

pub place_side : (depth j n : ℕ) → j < depth → (2 ^ depth + n) / 2 ^ j % 2 ≡ n / 2 ^ j % 2
place_side depth j n h =
    let e : 2 ^ (depth - j) ≡ 2 ^ (depth - j - 1) * 2 = ap (λ m. 2 ^ m) (let q : depth - j ≡ suc (depth - j - 1) = omega arith in q) ∙ pow-suc 2 (depth - j - 1) in
    ap (λ m. m % 2) (place_is depth j n (omega arith)) ∙ (let q : (2 ^ (depth - j) + n / 2 ^ j) % 2 ≡ n / 2 ^ j % 2 = omega arith in q)

-- two inner texts that are one say the same nodes
module _ {k : Kind} (laws : Laws k) where
  pub bytes_long : (n : Node) → SoundNode k n → length (node_bytes k n) ≡ 32 + k.width
  bytes_long n w = omega (arith, length-append n.digest (k.bytes n.amount), laws.bytes_width n.amount w.1, w.0)

  pub inner_apart : (l r m n : Node) → SoundNode k l → SoundNode k r → SoundNode k m → SoundNode k n → inner_text k l r ≡ inner_text k m n → (l ≡ m) × (r ≡ n)
  inner_apart l r m n a b c d e =
      let t : node_bytes k l ++ node_bytes k r ≡ node_bytes k m ++ node_bytes k n = cc in
      let p = parts (node_bytes k l) (node_bytes k m) (node_bytes k r) (node_bytes k n) (bytes_long l a ∙ sym (bytes_long m c)) t in
      (node_apart laws l m a c p.0, node_apart laws r n b d p.1)

module _ (k : Kind) (h : Hash) (s : Sheet) where
  pub place_up : (f : File) (j : ℕ) → place_at k h s f (suc j) ≡ place_at k h s f j / 2
  place_up f j = sym (shr-shr (2 ^ s.depth + f.leaf) j 1 ∙ ap (λ n. (2 ^ s.depth + f.leaf) / 2 ^ n) (add-one j))

  pub place_top : (f : File) → f.leaf < 2 ^ s.depth → place_at k h s f s.depth ≡ 1
  place_top f l =
      let a = add-div_left f.leaf {k = 2 ^ s.depth} (pow_pos s.depth) in
      let b = div-eq_of_lt l in
      omega arith

  pub leaf_is : (f g : File) → place_at k h s f 0 ≡ place_at k h s g 0 → f.leaf ≡ g.leaf
  leaf_is f g e = let a = div-one (2 ^ s.depth + f.leaf) in let b = div-one (2 ^ s.depth + g.leaf) in omega arith

  -- an even place is a left one
  pub side_is : (f : File) (j : ℕ) → j < s.depth → is_left f j ≡ eqb (place_at k h s f j % 2) 0
  side_is f j l = ap (λ m. eqb m 0) (sym (place_side s.depth j f.leaf l))

  abbrev pub node : File → ℕ → Node
  node f j = path_node k h s.closing f j

  abbrev pub on_left : File → ℕ → Node
  on_left f j = left f j (node f j)

  abbrev pub on_right : File → ℕ → Node
  on_right f j = right f j (node f j)

  pub digest_is : (f : File) (j : ℕ) → (node f j).digest ≡ h.of (text_at k h s f j)
  digest_is f zero = refl
  digest_is f (suc j) = refl

-- the nodes of a path are sound: amounts only grow on the way up
module _ {k : Kind} (laws : Laws k) {h : Hash} (hashes : HashLaws h) {s : Sheet} (root : SoundNode k s.root) where
  module _ (f : File) (p : Passed k h s f) where
    counts : (j : ℕ) → j ≤ s.depth → length (node k h s f j).amount ≡ k.count
    counts = node_count k laws h hashes s.closing s.depth f p.balance_writable (λ j l. (p.steps_sound j l).1)

    grows : (j : ℕ) → j < s.depth → T (k.under (node k h s f j).amount (node k h s f (suc j)).amount)
    grows j l =
        side_under k laws (is_left f j) (node k h s f j) (step_at f j) (counts j (omega arith)) (laws.writable_count (step_at f j).amount (p.steps_sound j l).1)

    writable_from : (d j : ℕ) → d + j ≡ s.depth → T (k.writable (node k h s f j).amount)
    writable_from zero j e =
        let i : s.depth ≡ j = omega arith in
        subst (λ x. T (k.writable (node k h s f x).amount)) i (subst (λ n. T (k.writable n.amount)) (sym p.at_top) root.1)
    writable_from (suc d) j e =
        laws.under_writable (node k h s f j).amount (node k h s f (suc j)).amount (grows j (omega arith)) (writable_from d (suc j) (omega arith))

    pub sound : (j : ℕ) → j ≤ s.depth → SoundNode k (node k h s f j)
    sound j l = (
      digest_long k laws h hashes s.closing s.depth f p.balance_writable (λ j l. (p.steps_sound j l).1) j,
      writable_from (s.depth - j) j (omega arith),
    )

    pub sound_left : (j : ℕ) → j < s.depth → SoundNode k (on_left k h s f j)
    sound_left j l = cond_both (is_left f j) (node k h s f j) (step_at f j) (SoundNode k) (λ _. sound j (omega arith)) (λ _. p.steps_sound j l)

    pub sound_right : (j : ℕ) → j < s.depth → SoundNode k (on_right k h s f j)
    sound_right j l = cond_both (is_left f j) (step_at f j) (node k h s f j) (SoundNode k) (λ _. p.steps_sound j l) (λ _. sound j (omega arith))

  module _ (f g : File) (p : Passed k h s f) (q : Passed k h s g) where
    -- one text above: the same two nodes below
    pub below : (j : ℕ) → j < s.depth → text_at k h s f (suc j) ≡ text_at k h s g (suc j)
        → (on_left k h s f j ≡ on_left k h s g j) × (on_right k h s f j ≡ on_right k h s g j)
    below j l e =
        inner_apart laws (on_left k h s f j) (on_right k h s f j) (on_left k h s g j) (on_right k h s g j)
        (sound_left f p j l) (sound_right f p j l) (sound_left g q j l) (sound_right g q j l) e

    one_side : (j : ℕ) → j < s.depth → place_at k h s f j ≡ place_at k h s g j → is_left g j ≡ is_left f j
    one_side j l m = side_is k h s g j l ∙ ap (λ n. eqb (n % 2) 0) (sym m) ∙ sym (side_is k h s f j l)

    -- and so the same node at a place that both paths have, and the same beside it
    pub one_node : (j : ℕ) → j < s.depth → place_at k h s f j ≡ place_at k h s g j → text_at k h s f (suc j) ≡ text_at k h s g (suc j)
        → (node k h s f j ≡ node k h s g j) × (step_at f j ≡ step_at g j)
    one_node j l m e =
        let b = below j l e in
        let fl = is_left f j in
        let gl = is_left g j in
        let same = one_side j l m in
        ⊎_elim
        (λ v. (sym (cond-true fl (node k h s f j) (step_at f j) v) ∙ b.0 ∙ cond-true gl (node k h s g j) (step_at g j) (same ∙ v), sym (cond-true fl (step_at f j) (node k h s f j) v) ∙ b.1 ∙ cond-true gl (step_at g j) (node k h s g j) (same ∙ v)))
        (λ v. (sym (cond-false fl (step_at f j) (node k h s f j) v) ∙ b.1 ∙ cond-false gl (step_at g j) (node k h s g j) (same ∙ v), sym (cond-false fl (node k h s f j) (step_at f j) v) ∙ b.0 ∙ cond-false gl (node k h s g j) (step_at g j) (same ∙ v)))
        (cases_Bool fl)

    -- At a place that both paths have, under one text or at the root, the two texts have one digest.
    pub one_digest : (j : ℕ) → j ≤ s.depth → place_at k h s f j ≡ place_at k h s g j
        → ((i : ℕ) → j < i → i ≤ s.depth → place_at k h s f i ≡ place_at k h s g i → text_at k h s f i ≡ text_at k h s g i)
        → h.of (text_at k h s f j) ≡ h.of (text_at k h s g j)
    one_digest j l m agree =
        let to : (node k h s f j).digest ≡ (node k h s g j).digest → h.of (text_at k h s f j) ≡ h.of (text_at k h s g j) = λ e. sym (digest_is k h s f j) ∙ e ∙ digest_is k h s g j in
        ⊎_elim
        (λ (b : j < s.depth).
        let up : place_at k h s f (suc j) ≡ place_at k h s g (suc j) = place_up k h s f j ∙ ap (λ n. n / 2) m ∙ sym (place_up k h s g j) in
        to (ap (λ n. n.digest) (one_node j b m (agree (suc j) (omega arith) (omega arith) up)).0))
        (λ (b : s.depth ≤ j).
        let t : j ≡ s.depth = omega arith in
        to (ap (λ n. n.digest) (ap (node k h s f) t ∙ p.at_top ∙ sym (ap (node k h s g) t ∙ q.at_top))))
        (cases_lt j s.depth)
