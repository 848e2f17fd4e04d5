-- The balances of files that agree, one for each place, join to an amount under that of any place above them all.
use Rattle.std.proofs.Common.{◌≡◌, ℕ, zero, suc, ◌+◌, ◌*◌, ◌/◌, ◌%◌, ◌≤◌, Bool, true, false, cond, not, T, eqb, List, [], ◌∷◌, length, sym, refl, ap, ◌∙◌, subst, inl, inr, ⊎_elim, arith, eqb-true}
use borrow.Author.Tests.{eqb-false}
use Rattle.std.proofs.lemmas.Bool.{cond_both, cond-true, cond-false}
use Rattle.amount.specs.Kinds.{Kind, Laws, total}
use Rattle.digest.specs.Hashes.{Hash, HashLaws}
use Rattle.sheet.specs.Layout.{Sheet}
use Rattle.file.specs.Layout.{File}
use Rattle.verify.specs.Paths.{step_at, is_left}
use Rattle.verify.proofs.Back.{SoundNode}
use Rattle.audit.specs.Audits.{balances, place_at, text_at}
use Rattle.audit.specs.Promise.{Among}
use Rattle.audit.proofs.Files.{Passed}
use Rattle.audit.proofs.Trees.{place_up, place_top, side_is, node, on_left, on_right, sound_left, sound_right, below}

-- two files have one text wherever their paths meet
abbrev pub Agree : (k : Kind) (h : Hash) (s : Sheet) → File → File → Type 0
Agree k h s f g = (j : ℕ) → j ≤ s.depth → place_at k h s f j ≡ place_at k h s g j → text_at k h s f j ≡ text_at k h s g j

-- each two of the files agree, and have different places
abbrev pub Pairs : (k : Kind) (h : Hash) (s : Sheet) → List File → Type 0
Pairs k h s [] = Unit {0}
Pairs k h s (f ∷ fs) = ((g : File) → Among g fs → Agree k h s f g × (place_at k h s f 0 ≡ place_at k h s g 0 → ⊥)) × Pairs k h s fs

-- the files that pass a test
abbrev pub keep : (File → Bool) → List File → List File
keep p [] = []
keep p (f ∷ fs) = cond (p f) (f ∷ keep p fs) (keep p fs)

pub keep_among : (p : File → Bool) (fs : List File) (g : File) → Among g (keep p fs) → Among g fs × (p g ≡ true)
keep_among p [] g = λ m. absurd m
keep_among p (f ∷ fs) g =
    cond_both (p f) (f ∷ keep p fs) (keep p fs) (λ l. Among g l → Among g (f ∷ fs) × (p g ≡ true))
    (λ e. ⊎_elim (λ q. (inl q, ap p q ∙ e)) (λ m. let r = keep_among p fs g m in (inr r.0, r.1)))
    (λ _ m. let r = keep_among p fs g m in (inr r.0, r.1))

pub among_keep : (p : File → Bool) (fs : List File) (g : File) → Among g fs → p g ≡ true → Among g (keep p fs)
among_keep p [] g m e = m
among_keep p (f ∷ fs) g m e =
    cond_both (p f) (f ∷ keep p fs) (keep p fs) (Among g)
    (λ _. ⊎_elim (λ q. inl q) (λ n. inr (among_keep p fs g n e)) m)
    (λ n. ⊎_elim (λ q. absurd (let b : ◌≡◌ {A = Bool} true false = sym e ∙ ap p q ∙ n in let z : ◌≡◌ {A = ℕ} 0 1 = cc in omega arith)) (λ x. among_keep p fs g x e) m)

pub keep_pairs : (k : Kind) (h : Hash) (s : Sheet) (p : File → Bool) (fs : List File) → Pairs k h s fs → Pairs k h s (keep p fs)
keep_pairs k h s p [] ps = tt
keep_pairs k h s p (f ∷ fs) ps =
    cond_both (p f) (f ∷ keep p fs) (keep p fs) (Pairs k h s)
    (λ _. (λ g m. ps.0 g (keep_among p fs g m).0, keep_pairs k h s p fs ps.1))
    (λ _. keep_pairs k h s p fs ps.1)

even_place : (x i : ℕ) → x / 2 ≡ i → eqb (x % 2) 0 ≡ true → x ≡ 2 * i
even_place x i e b = let z = eqb-true (x % 2) 0 b in omega arith

pub turned : (b : Bool) → not b ≡ true → b ≡ false
turned true h = sym h
turned false h = refl

odd_place : (x i : ℕ) → x / 2 ≡ i → not (eqb (x % 2) 0) ≡ true → x ≡ 2 * i + 1
odd_place x i e b = let z = eqb-false (x % 2) 0 (turned (eqb (x % 2) 0) b) in omega (arith, z)

module _ {k : Kind} (laws : Laws k) where
  -- all of them are those that pass a test, joined with those that do not
  pub total_split : (p : File → Bool) (fs : List File)
      → total k (balances fs) ≡ k.join (total k (balances (keep p fs))) (total k (balances (keep (λ f. not (p f)) fs)))
  total_split p [] = sym (laws.zero_neutral k.zero (laws.writable_count k.zero laws.zero_writable))
  total_split p (f ∷ fs) =
      let b = f.line.balance in
      let K = keep p fs in
      let N = keep (λ f. not (p f)) fs in
      let x = total k (balances K) in
      let y = total k (balances N) in
      let r : k.join b (total k (balances fs)) ≡ k.join b (k.join x y) = ap (k.join b) (total_split p fs) in
      let P : Bool → Type 0 = λ v. k.join b (total k (balances fs)) ≡ k.join (total k (balances (cond v (f ∷ K) K))) (total k (balances (cond (not v) (f ∷ N) N))) in
      elim (p f) as P [
        | true ↦ r ∙ sym (laws.join_assoc b x y)
        | false ↦ r ∙ sym (laws.join_assoc b x y) ∙ ap (λ z. k.join z y) (laws.join_comm b x) ∙ laws.join_assoc x b y
      ]

  under_both : (a b l r : List ℕ) → T (k.under a l) → T (k.under b r) → T (k.under (k.join a b) (k.join l r))
  under_both a b l r p q =
      let u = laws.under_join a l b p in
      let v = laws.under_join b r l q in
      let w : T (k.under (k.join l b) (k.join l r)) = subst (λ x. T (k.under x (k.join l r))) (laws.join_comm b l) (subst (λ x. T (k.under (k.join b l) x)) (laws.join_comm r l) v) in
      laws.under_trans (k.join a b) (k.join l b) (k.join l r) u w

  -- of one alone
  pub total_one : (x : List ℕ) → T (k.writable x) → k.join x k.zero ≡ x
  total_one x w = laws.join_comm x k.zero ∙ laws.zero_neutral x (laws.writable_count x w)

module _ {k : Kind} (laws : Laws k) {h : Hash} (hashes : HashLaws h) {s : Sheet} (root : SoundNode k s.root) where
  -- files through one place, where all have one amount
  pub bound : (j : ℕ) → j ≤ s.depth → (i : ℕ) (m : List ℕ) → length m ≡ k.count → (fs : List File)
      → ((g : File) → Among g fs → Passed k h s g × (place_at k h s g j ≡ i) × ((node k h s g j).amount ≡ m)) → Pairs k h s fs → T (k.under (total k (balances fs)) m)
  bound zero l i m n [] ok ps = laws.zero_under m n
  bound zero l i m n (f ∷ []) ok ps =
      let o = ok f (inl refl) in
      subst (λ x. T (k.under x m)) (sym (total_one laws f.line.balance o.0.balance_writable ∙ o.2)) (laws.under_refl m)
  bound zero l i m n (f ∷ g ∷ fs) ok ps = absurd ((ps.0 g (inl refl)).1 ((ok f (inl refl)).1 ∙ sym (ok g (inr (inl refl))).1))
  bound (suc j) l i m n [] ok ps = laws.zero_under m n
  bound (suc j) l i m n (f ∷ fs) ok ps =
      let all = f ∷ fs in
      let own = ok f (inl refl) in
      let one_text : (g : File) → Among g all → text_at k h s f (suc j) ≡ text_at k h s g (suc j) =
      λ g. ⊎_elim (λ e. ap (λ x. text_at k h s x (suc j)) (sym e)) (λ a. (ps.0 g a).0 (suc j) l (own.1 ∙ sym (ok g (inr a)).1)) in
      let lower : (g : File) → Among g all → (on_left k h s f j ≡ on_left k h s g j) × (on_right k h s f j ≡ on_right k h s g j) =
      λ g a. below laws hashes root f g own.0 (ok g a).0 j l (one_text g a) in
      let half : (g : File) → Among g all → place_at k h s g j / 2 ≡ i = λ g a. sym (place_up k h s g j) ∙ (ok g a).1 in
      let p : File → Bool = λ g. eqb (place_at k h s g j % 2) 0 in
      let q : File → Bool = λ g. not (p g) in
      let lefts : T (k.under (total k (balances (keep p all))) (on_left k h s f j).amount) =
      bound j (omega arith) (2 * i) (on_left k h s f j).amount (laws.writable_count (on_left k h s f j).amount (sound_left laws hashes root f own.0 j l).1) (keep p all)
      (λ g a. let r = keep_among p all g a in (
        (ok g r.0).0,
        even_place (place_at k h s g j) i (half g r.0) r.1,
        ap (λ x. x.amount) (sym ((lower g r.0).0 ∙ cond-true (is_left g j) (node k h s g j) (step_at g j) (side_is k h s g j l ∙ r.1))),
      ))
      (keep_pairs k h s p all ps) in
      let rights : T (k.under (total k (balances (keep q all))) (on_right k h s f j).amount) =
      bound j (omega arith) (2 * i + 1) (on_right k h s f j).amount (laws.writable_count (on_right k h s f j).amount (sound_right laws hashes root f own.0 j l).1) (keep q all)
      (λ g a. let r = keep_among q all g a in (
        (ok g r.0).0,
        odd_place (place_at k h s g j) i (half g r.0) r.1,
        ap (λ x. x.amount) (sym ((lower g r.0).1 ∙ cond-false (is_left g j) (step_at g j) (node k h s g j) (side_is k h s g j l ∙ turned (p g) r.1))),
      ))
      (keep_pairs k h s q all ps) in
      let both = under_both laws (total k (balances (keep p all))) (total k (balances (keep q all))) (on_left k h s f j).amount (on_right k h s f j).amount lefts rights in
      let sum = total_split laws p all in
      subst (λ x. T (k.under (total k (balances all)) x)) own.2 (subst (λ x. T (k.under x (k.join (on_left k h s f j).amount (on_right k h s f j).amount))) (sym sum) both)

  -- the whole tree
  pub under_total : (fs : List File) → ((g : File) → Among g fs → Passed k h s g) → Pairs k h s fs → T (k.under (total k (balances fs)) s.root.amount)
  under_total fs ok ps =
      bound s.depth (omega arith) 1 s.root.amount (laws.writable_count s.root.amount root.1) fs
      (λ g a. (ok g a, place_top k h s g (ok g a).leaf_low, ap (λ n. n.amount) (ok g a).at_top)) ps
