-- The nodes of a tree: how long their amounts are, and that a part can be written where the whole can.
use Rattle.std.proofs.Common.{◌≡◌, ℕ, zero, suc, ◌+◌, ◌-◌, ◌*◌, ◌^◌, ◌<◌, ◌≤◌, Bool, true, false, not, ◌||◌, T, ltb, leb, List, [], ◌∷◌, map, length, Some, None, Option, Result, sym, refl, ap, ◌∙◌, subst, mul-le-mul_right, mul_assoc, mul-le-mul_left, arith, ltb→lt, lt→ltb, nltb→le, pow_mono, pow-add}
use native.Mathlib.Nat.{one-le-pow, pow-succ'}
use lib.Dec.{nleb→lt, not_T}
use Rattle.octets.proofs.Passes.{true_T, false_T}
use Rattle.std.proofs.lemmas.List.{length-map}
use Rattle.std.specs.List.{slice_get}
use Rattle.refusal.specs.declared.cases.Refusal.{Refusal}
use Rattle.refusal.specs.declared.cases.Refusal.TheVariants.{JoinUnwritable}
use Rattle.refusal.specs.Tables.{◌⇒◌, first, Answers}
use Rattle.amount.specs.Kinds.{Kind, Laws}
use Rattle.amount.proofs.Joins as joins
use Rattle.digest.specs.Hashes.{Hash}
use Rattle.node.specs.Texts.{Line, Node, inner_node}
use Rattle.tree.specs.Trees.{leaf_at, node_at, bad_limits}

-- what holds of each line that is mapped holds of each that is found
pub nth_each : {A : Type 0} (f : A → Line) (P : Line → Type 0) → ((x : A) → P (f x)) → (xs : List A) (n : ℕ) (l : Line) → slice_get (map f xs) n ≡ Some l → P l
nth_each f P h [] n l e = absurd (let z : ◌≡◌ {A = ℕ} 0 1 = cc in omega arith)
nth_each f P h (y ∷ xs) zero l e = let p : f y ≡ l = cc in subst P p (h y)
nth_each f P h (y ∷ xs) (suc n) l e = nth_each f P h xs n l e

module _ {k : Kind} (laws : Laws k) (h : Hash) (closing : ℕ) (lines : List Line)
    (fit : (n : ℕ) (l : Line) → slice_get lines n ≡ Some l → T (k.writable l.balance)) where
  pub leaf_writable : (n : ℕ) (o : Option Line) → slice_get lines n ≡ o → T (k.writable (leaf_at k h closing lines n o).amount)
  leaf_writable n (Some l) e = fit n l e
  leaf_writable n None e = laws.zero_writable

  pub amount_count : (height n : ℕ) → length (node_at k h closing lines height n).amount ≡ k.count
  amount_count zero n = laws.writable_count (node_at k h closing lines 0 n).amount (leaf_writable n (slice_get lines n) refl)
  amount_count (suc height) n =
      laws.join_count (node_at k h closing lines height (2 * n)).amount (node_at k h closing lines height (2 * n + 1)).amount
      (amount_count height (2 * n)) (amount_count height (2 * n + 1))

  -- a node's amount can be written where that of the node above can
  pub left_below : (height n : ℕ) → T (k.writable (node_at k h closing lines (suc height) n).amount) → T (k.writable (node_at k h closing lines height (2 * n)).amount)
  left_below height n =
      joins.left_writable laws (node_at k h closing lines height (2 * n)).amount (node_at k h closing lines height (2 * n + 1)).amount
      (amount_count height (2 * n)) (amount_count height (2 * n + 1))

  pub right_below : (height n : ℕ) → T (k.writable (node_at k h closing lines (suc height) n).amount) → T (k.writable (node_at k h closing lines height (2 * n + 1)).amount)
  right_below height n =
      joins.right_writable laws (node_at k h closing lines height (2 * n)).amount (node_at k h closing lines height (2 * n + 1)).amount
      (amount_count height (2 * n)) (amount_count height (2 * n + 1))

abbrev pub unwritable : Bool → Option Refusal
unwritable b = first ((not b ⇒ JoinUnwritable 0) ∷ [])

-- where a part is refused, so is the whole
pub refused_above : (part whole : Bool) (e : Refusal) → (T whole → T part) → unwritable part ≡ Some e → unwritable whole ≡ Some e
refused_above true whole e f r = absurd (let z : ◌≡◌ {A = ℕ} 0 1 = cc in omega arith)
refused_above false true e f r = absurd (f tt)
refused_above false false e f r = r

pub accepted : (b : Bool) → T b → unwritable b ≡ None
accepted true t = refl
accepted false t = absurd t

module _ {k : Kind} (laws : Laws k) (h : Hash) (closing : ℕ) (lines : List Line)
    (fit : (n : ℕ) (l : Line) → slice_get lines n ≡ Some l → T (k.writable l.balance)) (height below n : ℕ) (is : height ≡ suc below) where
  pub refused_left : (e : Refusal) → unwritable (k.writable (node_at k h closing lines below (2 * n)).amount) ≡ Some e → unwritable (k.writable (node_at k h closing lines height n).amount) ≡ Some e
  refused_left e r =
      subst (λ m. unwritable (k.writable (node_at k h closing lines m n).amount) ≡ Some e) (sym is)
      (refused_above (k.writable (node_at k h closing lines below (2 * n)).amount) (k.writable (node_at k h closing lines (suc below) n).amount) e (left_below laws h closing lines fit below n) r)

  pub refused_right : (e : Refusal) → unwritable (k.writable (node_at k h closing lines below (2 * n + 1)).amount) ≡ Some e → unwritable (k.writable (node_at k h closing lines height n).amount) ≡ Some e
  refused_right e r =
      subst (λ m. unwritable (k.writable (node_at k h closing lines m n).amount) ≡ Some e) (sym is)
      (refused_above (k.writable (node_at k h closing lines below (2 * n + 1)).amount) (k.writable (node_at k h closing lines (suc below) n).amount) e (right_below laws h closing lines fit below n) r)

  -- the node over both is the node above
  pub over_both : {X : Type 0} (f : X → Node) (r : Result X Refusal) (left right : Node)
      → left ≡ node_at k h closing lines below (2 * n) → right ≡ node_at k h closing lines below (2 * n + 1)
      → Answers r (unwritable (k.writable (k.join left.amount right.amount))) (λ x. f x ≡ inner_node k h left right)
      → Answers r (unwritable (k.writable (node_at k h closing lines height n).amount)) (λ x. f x ≡ node_at k h closing lines height n)
  over_both f r left right p q a =
      subst (λ m. Answers r (unwritable (k.writable (node_at k h closing lines m n).amount)) (λ x. f x ≡ node_at k h closing lines m n)) (sym is)
      (subst (λ y. Answers r (unwritable (k.writable (k.join (node_at k h closing lines below (2 * n)).amount y.amount))) (λ x. f x ≡ inner_node k h (node_at k h closing lines below (2 * n)) y)) q
      (subst (λ y. Answers r (unwritable (k.writable (k.join y.amount right.amount))) (λ x. f x ≡ inner_node k h y right)) p a))

-- both halves of what fits 2^20 leaves fit
pub halves : (n h height : ℕ) → height ≡ suc h → (n + 1) * 2 ^ height ≤ 2 ^ 20 → ((2 * n + 1) * 2 ^ h ≤ 2 ^ 20) × ((2 * n + 1 + 1) * 2 ^ h ≤ 2 ^ 20) × (2 * n + 1 < 2 ^ 20)
halves n h height e w =
    let q = 2 ^ h in
    let p : 1 ≤ q = one-le-pow h 2 (omega arith) in
    let a : (n + 1) * 2 ^ height ≡ (2 * n + 1 + 1) * q =
    ap (λ m. (n + 1) * 2 ^ m) e ∙ ap (λ m. (n + 1) * m) (pow-succ' 2 h) ∙ sym (mul_assoc (n + 1) 2 q) ∙ ap (λ m. m * q) (let b : (n + 1) * 2 ≡ 2 * n + 1 + 1 = omega arith in b) in
    let l : (2 * n + 1) * q ≤ (2 * n + 1 + 1) * q = mul-le-mul_right q (let b : 2 * n + 1 ≤ 2 * n + 1 + 1 = omega arith in b) in
    let r : (2 * n + 1 + 1) * 1 ≤ (2 * n + 1 + 1) * q = mul-le-mul_left (2 * n + 1 + 1) p in
    (omega arith, omega arith, omega arith)

-- a node that the tree has, with all below it
pub inside : (n depth height : ℕ) → depth ≤ 20 → height ≤ depth → n < 2 ^ (depth - height) → (n + 1) * 2 ^ height ≤ 2 ^ 20
inside n depth height d g h =
    let a : (n + 1) * 2 ^ height ≤ 2 ^ (depth - height) * 2 ^ height = mul-le-mul_right (2 ^ height) (let b : n + 1 ≤ 2 ^ (depth - height) = omega arith in b) in
    let e : 2 ^ (depth - height) * 2 ^ height ≡ 2 ^ depth = sym (pow-add 2 (depth - height) height) ∙ ap (λ m. 2 ^ m) (let b : depth - height + height ≡ depth = omega arith in b) in
    let m : 2 ^ depth ≤ 2 ^ 20 = pow_mono d in
    omega arith

-- the tests of a table, from what the code found
pub many : {A : Type 0} (f : A → Line) (xs : List A) (t d : ℕ) → t ≡ 2 ^ d → t < length xs → ltb (2 ^ d) (length (map f xs)) ≡ true
many f xs t d e h = true_T (ltb (2 ^ d) (length (map f xs))) (lt→ltb (2 ^ d) (length (map f xs)) (simp length-map (omega arith)))

pub few : {A : Type 0} (f : A → Line) (xs : List A) (t d : ℕ) → t ≡ 2 ^ d → length xs ≤ t → ltb (2 ^ d) (length (map f xs)) ≡ false
few f xs t d e h = false_T (ltb (2 ^ d) (length (map f xs))) (λ p. let q = ltb→lt (2 ^ d) (length (map f xs)) p in omega (arith, length-map xs f))

pub either : (a b : Bool) → a || b ≡ false → (T a → ⊥) × (T b → ⊥)
either true b e = (λ _. let z : ◌≡◌ {A = ℕ} 0 1 = cc in omega arith, λ _. let z : ◌≡◌ {A = ℕ} 0 1 = cc in omega arith)
either false true e = (λ h. h, λ _. let z : ◌≡◌ {A = ℕ} 0 1 = cc in omega arith)
either false false e = (λ h. h, λ h. h)

pub shallow : (depth closing : ℕ) → bad_limits closing depth ≡ false → depth ≤ 20
shallow depth closing b = nltb→le 20 depth (not_T (ltb 20 depth) (either (ltb 20 depth) (ltb closing 1 || ltb 9999 closing) b).0)

pub known_closing : (depth closing : ℕ) → bad_limits closing depth ≡ false → closing ≤ 9999
known_closing depth closing b =
    let p = (either (ltb 20 depth) (ltb closing 1 || ltb 9999 closing) b).1 in
    nltb→le 9999 closing (not_T (ltb 9999 closing) (either (ltb closing 1) (ltb 9999 closing) (false_T (ltb closing 1 || ltb 9999 closing) p)).1)

pub has_node : (depth height n closing : ℕ) → bad_limits closing depth ≡ false → ltb depth height || leb (2 ^ (depth - height)) n ≡ false → (n + 1) * 2 ^ height ≤ 2 ^ 20
has_node depth height n closing b e =
    let p = either (ltb depth height) (leb (2 ^ (depth - height)) n) e in
    inside n depth height (shallow depth closing b) (nltb→le depth height (not_T (ltb depth height) p.0)) (nleb→lt (2 ^ (depth - height)) n (not_T (leb (2 ^ (depth - height)) n) p.1))
