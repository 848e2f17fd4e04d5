-- The amount of a node is that of all lines below it joined, so the root's is that of the whole ledger.
use Rattle.std.proofs.Common.{◌≡◌, ℕ, zero, suc, ◌+◌, ◌-◌, ◌*◌, ◌^◌, ◌<◌, ◌≤◌, false, ◌||◌, T, ltb, leb, List, [], ◌∷◌, ◌++◌, length, take, drop, Some, Ok, Err, Option, Result, sym, refl, ap, ◌∙◌, subst, mul_assoc, add-mul, arith, nltb→le, take_all, take-add}
use native.Mathlib.Nat.{pow-succ'}
use lib.Dec.{nleb→lt, not_T}
use Rattle.std.proofs.lemmas.List.{drop-drop}
use Rattle.std.specs.List.{slice_get}
use Rattle.refusal.specs.declared.cases.Refusal.{Refusal}
use Rattle.refusal.specs.Tables.{Answers}
use Rattle.amount.specs.Kinds.{Kind, Laws}
use Rattle.digest.specs.Hashes.{Hash}
use Rattle.node.specs.Texts.{Line, Node}
use Rattle.tree.specs.Trees.{leaf_at, node_at, balances_total}
use Rattle.tree.proofs.Subtrees.{amount_count, either}

module _ {k : Kind} (laws : Laws k) where
  total_append : (xs ys : List Line) → length (balances_total k ys) ≡ k.count → balances_total k (xs ++ ys) ≡ k.join (balances_total k xs) (balances_total k ys)
  total_append [] ys c = sym (laws.zero_neutral (balances_total k ys) c)
  total_append (l ∷ xs) ys c =
      ap (λ t. k.join l.balance t) (total_append xs ys c)
      ∙ sym (laws.join_assoc l.balance (balances_total k xs) (balances_total k ys))

  module _ (h : Hash) (closing : ℕ) (lines : List Line)
      (fit : (n : ℕ) (l : Line) → slice_get lines n ≡ Some l → T (k.writable l.balance)) where
    leaf_total : (m : ℕ) (xs : List Line) (n : ℕ) → ((l : Line) → slice_get xs n ≡ Some l → T (k.writable l.balance))
        → (leaf_at k h closing lines m (slice_get xs n)).amount ≡ balances_total k (take 1 (drop n xs))
    leaf_total m [] zero f = refl
    leaf_total m [] (suc n) f = refl
    leaf_total m (l ∷ xs) zero f =
        sym (laws.join_comm l.balance k.zero ∙ laws.zero_neutral l.balance (laws.writable_count l.balance (f l refl)))
    leaf_total m (l ∷ xs) (suc n) f = leaf_total m xs n f

    node_total : (height n : ℕ) → (node_at k h closing lines height n).amount ≡ balances_total k (take (2 ^ height) (drop (n * 2 ^ height) lines))
    node_total zero n =
        leaf_total n lines n (fit n)
        ∙ ap (λ m. balances_total k (take 1 (drop m lines))) (let e : n ≡ n * 2 ^ 0 = omega arith in e)
    node_total (suc height) n =
        let q = 2 ^ height in
        let at = n * 2 ^ suc height in
        let two : 2 ^ suc height ≡ 2 * q = pow-succ' 2 height in
        let left : 2 * n * q ≡ at = ap (λ m. m * q) (let b : 2 * n ≡ n * 2 = omega arith in b) ∙ mul_assoc n 2 q ∙ ap (λ m. n * m) (sym two) in
        let right : (2 * n + 1) * q ≡ at + q = add-mul (2 * n) 1 q ∙ ap (λ m. 2 * n * q + m) (let b : 1 * q ≡ q = omega arith in b) ∙ ap (λ m. m + q) left in
        let l : (node_at k h closing lines height (2 * n)).amount ≡ balances_total k (take q (drop at lines)) =
        node_total height (2 * n) ∙ ap (λ m. balances_total k (take q (drop m lines))) left in
        let r : (node_at k h closing lines height (2 * n + 1)).amount ≡ balances_total k (take q (drop q (drop at lines))) =
        node_total height (2 * n + 1) ∙ ap (λ m. balances_total k (take q (drop m lines))) right ∙ ap (λ t. balances_total k (take q t)) (sym (drop-drop q at lines)) in
        let c : length (balances_total k (take q (drop q (drop at lines)))) ≡ k.count =
        subst (λ t. length t ≡ k.count) r (amount_count laws h closing lines fit height (2 * n + 1)) in
        ap (λ t. k.join t (node_at k h closing lines height (2 * n + 1)).amount) l
        ∙ ap (λ t. k.join (balances_total k (take q (drop at lines))) t) r
        ∙ sym (total_append (take q (drop at lines)) (take q (drop q (drop at lines))) c)
        ∙ ap (balances_total k) (sym (take-add q q (drop at lines)))
        ∙ ap (λ m. balances_total k (take m (drop at lines))) (let b : q + q ≡ 2 ^ suc height = omega (arith, two) in b)

    -- the root
    pub root_total : (depth : ℕ) → length lines ≤ 2 ^ depth → (node_at k h closing lines depth 0).amount ≡ balances_total k lines
    root_total depth few =
        node_total depth 0
        ∙ ap (λ m. balances_total k (take (2 ^ depth) (drop m lines))) (let b : 0 * 2 ^ depth ≡ 0 = omega arith in b)
        ∙ ap (balances_total k) (take_all (2 ^ depth) lines few)

    -- a node of the depth's height is the root
    pub at_root : {X : Type 0} (f : X → Node) (r : Result X Refusal) (why : Option Refusal) (depth height n : ℕ)
        → ltb (2 ^ depth) (length lines) ≡ false → ltb depth height || leb (2 ^ (depth - height)) n ≡ false
        → Answers r why (λ x. f x ≡ node_at k h closing lines height n)
        → Answers r why (λ x. (f x ≡ node_at k h closing lines height n) × (height ≡ depth → (f x).amount ≡ balances_total k lines))
    at_root f (Err e) why depth height n few o a = a
    at_root f (Ok x) why depth height n few o a = (
      a.0,
      (
        a.1,
        λ is.
            let b : n < 2 ^ (depth - height) = nleb→lt (2 ^ (depth - height)) n (not_T (leb (2 ^ (depth - height)) n) (either (ltb depth height) (leb (2 ^ (depth - height)) n) o).1) in
            let d : depth - height ≡ 0 = omega arith in
            let first : n ≡ 0 = (let u : n < 2 ^ 0 = subst (λ m. n < 2 ^ m) d b in omega arith) in
            ap (λ m. m.amount) a.1
            ∙ ap (λ m. (node_at k h closing lines m n).amount) is
            ∙ ap (λ m. (node_at k h closing lines depth m).amount) first
            ∙ root_total depth (nltb→le (2 ^ depth) (length lines) (not_T (ltb (2 ^ depth) (length lines)) (λ t. subst T few t))),
      ),
    )
