-- What stands behind each verdict on a file, and what the counted files have in common.
use Rattle.std.proofs.Common.{◌≡◌, ℕ, suc, ◌+◌, ◌/◌, ◌^◌, ◌<◌, Bool, true, false, cond, List, [], ◌∷◌, ◌++◌, length, get_or, is_some, Some, None, Option, sym, refl, ap, ◌∙◌, subst, inl, inr, ⊎_elim, arith}
use Rattle.octets.specs.BigEndian.{be}
use Rattle.refusal.specs.declared.cases.Refusal.{Refusal}
use Rattle.refusal.specs.declared.cases.Refusal.TheVariants.{Full, TextsShown}
use Rattle.refusal.specs.Tables.{◌⇒◌, first}
use Rattle.amount.specs.Kinds.{Kind, Laws}
use Rattle.digest.specs.Hashes.{Hash, HashLaws}
use Rattle.node.specs.Texts.{Node}
use Rattle.sheet.specs.Layout.{Sheet}
use Rattle.file.specs.Layout.{File}
use Rattle.verify.specs.Paths.{file_of}
use Rattle.verify.specs.Checks.{or_else, under_refusal}
use Rattle.verify.proofs.Amounts.{or_none}
use Rattle.verify.proofs.Back.{SoundNode}
use Rattle.store.specs.Meaning.{Meaning}
use Rattle.audit.specs.Audits.{Texts, State, Call, present, tally, hand_out, lay, Verdict, turned_away, clashes, known, counts, place_at, through, clash, full, settle_by, verdict_by, verdict, after_verdict, next, after}
use Rattle.audit.specs.Promise.{Among, Collision}
use Rattle.audit.proofs.Files.{parts, Passed, passed}
use Rattle.audit.proofs.Trees.{leaf_is, one_node, one_digest}
use Rattle.audit.proofs.Bounds.{Agree, Pairs}
use Rattle.audit.proofs.Clashes.{none_from, some_from, not_through}

same_lists : (d : Node) (xs ys : List Node) → length xs ≡ length ys → ((j : ℕ) → j < length xs → get_or xs j d ≡ get_or ys j d) → xs ≡ ys
same_lists d [] [] n e = refl
same_lists d [] (y ∷ ys) n e = absurd (omega arith)
same_lists d (x ∷ xs) [] n e = absurd (omega arith)
same_lists d (x ∷ xs) (y ∷ ys) n e =
    let p : x ≡ y = e 0 (omega arith) in
    let q : xs ≡ ys = same_lists d xs ys (omega arith) (λ j l. e (suc j) (omega arith)) in
    cc

module _ {k : Kind} (laws : Laws k) {h : Hash} (hashes : HashLaws h) {s : Sheet} (root : SoundNode k s.root) where
  -- two files of one place that agree are one file
  pub one_file : (f g : File) → Passed k h s f → Passed k h s g → place_at k h s f 0 ≡ place_at k h s g 0 → Agree k h s f g → f ≡ g
  one_file f g p q m agree =
      let e = leaf_is k h s f g m in
      let meet : (j : ℕ) → place_at k h s f j ≡ place_at k h s g j = λ j. ap (λ n. (2 ^ s.depth + n) / 2 ^ j) e in
      let steps : f.steps ≡ g.steps =
      same_lists (record { digest = []; amount = [] }) f.steps g.steps (p.steps_many ∙ sym q.steps_many)
      (λ j l. let b : j < s.depth = omega (arith, p.steps_many) in (one_node laws hashes root f g p q j b (meet j) (agree (suc j) b (meet (suc j)))).1) in
      let c = be 4 s.closing in
      let fl = f.line in
      let gl = g.line in
      let t : 0 ∷ (c ++ (fl.customer ++ (fl.salt ++ k.bytes fl.balance))) ≡ 0 ∷ (c ++ (gl.customer ++ (gl.salt ++ k.bytes gl.balance))) = agree 0 (omega arith) m in
      let x = parts (0 ∷ c) (0 ∷ c) (fl.customer ++ (fl.salt ++ k.bytes fl.balance)) (gl.customer ++ (gl.salt ++ k.bytes gl.balance)) refl t in
      let y = parts fl.customer gl.customer (fl.salt ++ k.bytes fl.balance) (gl.salt ++ k.bytes gl.balance) (p.customer_long ∙ sym q.customer_long) x.1 in
      let z = parts fl.salt gl.salt (k.bytes fl.balance) (k.bytes gl.balance) (p.salt_long ∙ sym q.salt_long) y.1 in
      let b = laws.bytes_injective fl.balance gl.balance p.balance_writable q.balance_writable z.1 in
      λ i. record { leaf = e i; line = record { customer = y.0 i; salt = z.0 i; balance = b i }; steps = steps i }

  -- two texts found at a place have one digest
  pub clash_collides : (fs : List File) (f : File) → ((g : File) → Among g fs → Passed k h s g) → Passed k h s f → (t : Texts) → clash k h s fs f ≡ Some t → Collision h t
  clash_collides fs f ok p t e =
      let c = some_from k h s fs f s.depth t e in
      record {
        differ = c.differ;
        one_digest = ap h.of c.stored_is
            ∙ one_digest laws hashes root c.other f (ok c.other c.among) p c.height c.within c.meet (c.first c.other c.among)
            ∙ sym (ap h.of c.offered_is);
      }

module _ (k : Kind) (h : Hash) (s : Sheet) (nodes leaves : Meaning) where
  abbrev pub Passes : List ℕ → Type 0
  Passes bytes = under_refusal k h s bytes ≡ None

  abbrev pub said : List ℕ → File
  said bytes = file_of k s.depth bytes

  -- what stands behind a verdict
  pub data Judged (a : State) (bytes : List ℕ) : Verdict → Type 0 where
    refusing : (r : Refusal) → (a.shown ≡ None → Passes bytes → ⊥) → Judged a bytes (turned_away r)
    showing : (t : Texts) → Passes bytes → clash k h s a.counted (said bytes) ≡ Some t → Judged a bytes (clashes t)
    knowing : Passes bytes → clash k h s a.counted (said bytes) ≡ None → through k h s a.counted (said bytes) 0 ≡ true → Judged a bytes known
    filling : full k h s nodes leaves a.counted (said bytes) ≡ true → Judged a bytes (turned_away Full)
    counting : a.shown ≡ None → Passes bytes → clash k h s a.counted (said bytes) ≡ None → through k h s a.counted (said bytes) 0 ≡ false
        → Judged a bytes counts

  none_shown : (o : Option Texts) → first ((is_some o ⇒ TextsShown) ∷ []) ≡ None → o ≡ None
  none_shown None e = refl
  none_shown (Some t) e = absurd (let z : ◌≡◌ {A = ℕ} 0 1 = cc in omega arith)

  pub judged : (a : State) (bytes : List ℕ) → Judged a bytes (verdict k h s nodes leaves a bytes)
  judged a bytes = by_check (or_else (first ((is_some a.shown ⇒ TextsShown) ∷ [])) (under_refusal k h s bytes)) refl
    where
      by_room : (b : Bool) → full k h s nodes leaves a.counted (said bytes) ≡ b → a.shown ≡ None → Passes bytes → clash k h s a.counted (said bytes) ≡ None
          → through k h s a.counted (said bytes) 0 ≡ false → Judged a bytes (cond b (turned_away Full) counts)
      by_room true e n p c t = filling e
      by_room false e n p c t = counting n p c t

      by_place : (b : Bool) → through k h s a.counted (said bytes) 0 ≡ b → a.shown ≡ None → Passes bytes → clash k h s a.counted (said bytes) ≡ None
          → Judged a bytes (cond b known (cond (full k h s nodes leaves a.counted (said bytes)) (turned_away Full) counts))
      by_place true t n p c = knowing p c t
      by_place false t n p c = by_room (full k h s nodes leaves a.counted (said bytes)) refl n p c t

      by_texts : (o : Option Texts) → clash k h s a.counted (said bytes) ≡ o → a.shown ≡ None → Passes bytes
          → Judged a bytes (settle_by k h s nodes leaves o a.counted (said bytes))
      by_texts (Some t) e n p = showing t p e
      by_texts None e n p = by_place (through k h s a.counted (said bytes) 0) refl n p e

      by_check : (o : Option Refusal) → or_else (first ((is_some a.shown ⇒ TextsShown) ∷ [])) (under_refusal k h s bytes) ≡ o
          → Judged a bytes (verdict_by k h s nodes leaves o a.counted (said bytes))
      by_check (Some r) e =
          refusing r (λ n p.
          let b : ◌≡◌ {A = Option Refusal} None (Some r) = sym (ap (λ o. or_else (first ((is_some o ⇒ TextsShown) ∷ [])) (under_refusal k h s bytes)) n ∙ p) ∙ e in
          let z : ◌≡◌ {A = ℕ} 0 1 = cc in omega arith)
      by_check None e =
          let x = or_none (first ((is_some a.shown ⇒ TextsShown) ∷ [])) (under_refusal k h s bytes) e in
          by_texts (clash k h s a.counted (said bytes)) refl (none_shown a.shown x.0) x.1

  -- a counted file came as bytes that pass
  pub record Came (P : List ℕ → Type 0) (f : File) : Type 0 where
    pub bytes : List ℕ
    pub presented : P bytes
    pub passes : Passes bytes
    pub is : f ≡ said bytes

  -- what holds after every call, where P holds of the bytes of each presented file
  pub record Good (P : List ℕ → Type 0) (a : State) : Type 0 where
    pub came : (f : File) → Among f a.counted → Came P f
    pub pairs : Pairs k h s a.counted
    pub collide : (t : Texts) → a.shown ≡ Some t → Collision h t

  module _ (laws : Laws k) (hashes : HashLaws h) (root : SoundNode k s.root) (P : List ℕ → Type 0) where
    pub counted_passed : (a : State) → Good P a → (f : File) → Among f a.counted → Passed k h s f
    counted_passed a good f m = let c = good.came f m in subst (Passed k h s) (sym c.is) (passed laws hashes s root c.bytes c.passes)

    good_verdict : (a : State) → Good P a → (bytes : List ℕ) → P bytes → (v : Verdict) → Judged a bytes v → Good P (after_verdict k h s nodes leaves a (said bytes) v)
    good_verdict a good bytes p v (refusing r n) = good
    good_verdict a good bytes p v (filling e) = good
    good_verdict a good bytes p v (knowing q c t) = good
    good_verdict a good bytes p v (showing t q c) = record {
      came = good.came;
      pairs = good.pairs;
      collide = λ u e.
          let i : t ≡ u = cc in
          subst (Collision h) i (clash_collides laws hashes root a.counted (said bytes) (counted_passed a good) (passed laws hashes s root bytes q) t c);
    }
    good_verdict a good bytes p v (counting n q c t) = record {
      came = λ f. ⊎_elim (λ e. record { bytes = bytes; presented = p; passes = q; is = e }) (good.came f);
      pairs = (
        λ g m. (
          λ j l e. sym (none_from k h s a.counted (said bytes) s.depth c g m j l (sym e)),
          λ e. not_through k h s a.counted (said bytes) 0 t g m (sym e),
        ),
        good.pairs,
      );
      collide = good.collide;
    }

    pub good_next : (a : State) → Good P a → (c : Call) → ((bytes : List ℕ) → present bytes ≡ c → P bytes) → Good P (next k h s nodes leaves a c)
    good_next a good (present bytes) p = good_verdict a good bytes (p bytes refl) (verdict k h s nodes leaves a bytes) (judged a bytes)
    good_next a good tally p = good
    good_next a good (hand_out buffer) p = good
    good_next a good (lay sheet) p = good

    pub good_after : (calls : List Call) (a : State) → Good P a → ((bytes : List ℕ) → Among (present bytes) calls → P bytes) → Good P (after k h s nodes leaves a calls)
    good_after [] a good p = good
    good_after (c ∷ calls) a good p = good_after calls (next k h s nodes leaves a c) (good_next a good c (λ bytes e. p bytes (inl e))) (λ bytes m. p bytes (inr m))
