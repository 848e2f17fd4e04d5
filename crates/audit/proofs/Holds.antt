-- The promise, over every list of calls.
use Rattle.std.proofs.Common.{◌≡◌, ℕ, ◌+◌, ltb, List, [], ◌∷◌, ◌++◌, length, None, sym, refl, ap, ◌∙◌, subst, inl, inr, ⊎_elim, arith, ltb→lt}
use Rattle.std.proofs.lemmas.Bool.{or_cases}
use Rattle.octets.proofs.Passes.{T_true}
use Rattle.refusal.specs.declared.cases.Refusal.TheVariants.{Full}
use Rattle.amount.specs.Kinds.{Kind, Laws, total}
use Rattle.digest.specs.Hashes.{Hash, HashLaws}
use Rattle.sheet.specs.Layout.{Sheet}
use Rattle.file.specs.Layout.{File}
use Rattle.verify.specs.Checks.{leaf_place}
use Rattle.verify.proofs.Back.{SoundNode}
use Rattle.verify.proofs.Under.{sheet_root}
use Rattle.store.specs.Meaning.{Meaning}
use Rattle.audit.specs.Audits.{State, laid, Call, present, tally, hand_out, lay, Answer, refused, balances, Verdict, turned_away, clashes, known, counts, used_nodes, new_nodes, verdict, presented, after_verdict, answer, next, after}
use Rattle.audit.specs.Promise.{Among, OneEach, Settled, collides, was_counted, no_room, is_counted, Counting, adds, keeps, HoldsAfter, AuditPromise}
use Rattle.audit.proofs.Files.{passed}
use Rattle.audit.proofs.Bounds.{Pairs, under_total}
use Rattle.audit.proofs.Clashes.{none_from, through_out}
use Rattle.audit.proofs.Verdicts.{one_file, clash_collides, Passes, said, Judged, refusing, showing, knowing, filling, counting, judged, Good, counted_passed, good_after}

module _ (k : Kind) (h : Hash) (s : Sheet) (nodes leaves : Meaning) where
  one_each : (fs : List File) → Pairs k h s fs → OneEach k h s fs
  one_each [] ps = tt
  one_each (f ∷ fs) ps = (λ g m. (ps.0 g m).1, one_each fs ps.1)

  -- what was counted stays counted
  more_verdict : (a : State) (f : File) (v : Verdict) (g : File) → Among g a.counted → Among g (after_verdict k h s nodes leaves a f v).counted
  more_verdict a f (turned_away r) g m = m
  more_verdict a f (clashes t) g m = m
  more_verdict a f known g m = m
  more_verdict a f counts g m = inr m

  more_next : (a : State) (c : Call) (g : File) → Among g a.counted → Among g (next k h s nodes leaves a c).counted
  more_next a (present bytes) g m = more_verdict a (said k h s nodes leaves bytes) (verdict k h s nodes leaves a bytes) g m
  more_next a tally g m = m
  more_next a (hand_out buffer) g m = m
  more_next a (lay sheet) g m = m

  pub more_after : (calls : List Call) (a : State) (g : File) → Among g a.counted → Among g (after k h s nodes leaves a calls).counted
  more_after [] a g m = m
  more_after (c ∷ calls) a g m = more_after calls (next k h s nodes leaves a c) g (more_next a c g m)

  -- where none are shown, none were
  none_verdict : (a : State) (f : File) (v : Verdict) → (after_verdict k h s nodes leaves a f v).shown ≡ None → a.shown ≡ None
  none_verdict a f (turned_away r) e = e
  none_verdict a f (clashes t) e = absurd (let z : ◌≡◌ {A = ℕ} 0 1 = cc in omega arith)
  none_verdict a f known e = e
  none_verdict a f counts e = e

  none_next : (a : State) (c : Call) → (next k h s nodes leaves a c).shown ≡ None → a.shown ≡ None
  none_next a (present bytes) e = none_verdict a (said k h s nodes leaves bytes) (verdict k h s nodes leaves a bytes) e
  none_next a tally e = e
  none_next a (hand_out buffer) e = e
  none_next a (lay sheet) e = e

  none_after : (calls : List Call) (a : State) → (after k h s nodes leaves a calls).shown ≡ None → a.shown ≡ None
  none_after [] a e = e
  none_after (c ∷ calls) a e = none_next a c (none_after calls (next k h s nodes leaves a c) e)

  pub after_both : (before later : List Call) (a : State) → after k h s nodes leaves a (before ++ later) ≡ after k h s nodes leaves (after k h s nodes leaves a before) later
  after_both [] later a = refl
  after_both (c ∷ before) later a = after_both before later (next k h s nodes leaves a c)

  counting_by : (a : State) (bytes : List ℕ) (v : Verdict) → verdict k h s nodes leaves a bytes ≡ v → Counting k h s nodes leaves a (present bytes)
  counting_by a bytes (turned_away r) e = keeps (present bytes) (ap (λ v. (after_verdict k h s nodes leaves a (said k h s nodes leaves bytes) v).counted) e)
  counting_by a bytes (clashes t) e = keeps (present bytes) (ap (λ v. (after_verdict k h s nodes leaves a (said k h s nodes leaves bytes) v).counted) e)
  counting_by a bytes known e = keeps (present bytes) (ap (λ v. (after_verdict k h s nodes leaves a (said k h s nodes leaves bytes) v).counted) e)
  counting_by a bytes counts e =
      adds bytes (ap (presented k h s nodes leaves (leaf_place k s bytes)) e) (ap (λ v. (after_verdict k h s nodes leaves a (said k h s nodes leaves bytes) v).counted) e)

  counting_of : (a : State) (c : Call) → Counting k h s nodes leaves a c
  counting_of a (present bytes) = counting_by a bytes (verdict k h s nodes leaves a bytes) refl
  counting_of a tally = keeps tally refl
  counting_of a (hand_out buffer) = keeps (hand_out buffer) refl
  counting_of a (lay sheet) = keeps (lay sheet) refl

  module _ (laws : Laws k) (hashes : HashLaws h) (root : SoundNode k s.root) (P : List ℕ → Type 0) where
    settles_by : (a : State) → Good k h s nodes leaves P a → a.shown ≡ None → (bytes : List ℕ) → Passes k h s nodes leaves bytes
        → (v : Verdict) → Judged k h s nodes leaves a bytes v → verdict k h s nodes leaves a bytes ≡ v → Settled k h s nodes leaves a bytes (presented k h s nodes leaves (leaf_place k s bytes) v)
    settles_by a good n bytes p v (refusing r x) e = absurd (x n p)
    settles_by a good n bytes p v (showing t q c) e =
        collides t (ap (λ v. (after_verdict k h s nodes leaves a (said k h s nodes leaves bytes) v).shown) e)
        (clash_collides laws hashes root a.counted (said k h s nodes leaves bytes) (counted_passed k h s nodes leaves laws hashes root P a good) (passed laws hashes s root bytes p) t c)
    settles_by a good n bytes p v (knowing q c t) e =
        let f = said k h s nodes leaves bytes in
        let g = through_out k h s a.counted f 0 t in
        let same = one_file laws hashes root g.0 f (counted_passed k h s nodes leaves laws hashes root P a good g.0 g.1) (passed laws hashes s root bytes p) g.2 (λ j l m. none_from k h s a.counted f s.depth c g.0 g.1 j l m) in
        was_counted (subst (λ x. Among x a.counted) same g.1)
    settles_by a good n bytes p v (filling x) e =
        let f = said k h s nodes leaves bytes in
        let u = ltb nodes.room (used_nodes k h s a.counted + new_nodes k h s a.counted f) in
        let w = ltb leaves.room (length a.counted + 1) in
        no_room (⊎_elim (λ y. inl (ltb→lt nodes.room (used_nodes k h s a.counted + new_nodes k h s a.counted f) (T_true u y))) (λ y. inr (ltb→lt leaves.room (length a.counted + 1) (T_true w y))) (or_cases u w x))
    settles_by a good n bytes p v (counting m q c t) e = is_counted (ap (λ v. (after_verdict k h s nodes leaves a (said k h s nodes leaves bytes) v).counted) e)

    settles : (a : State) → Good k h s nodes leaves P a → a.shown ≡ None → (bytes : List ℕ) → Passes k h s nodes leaves bytes → Settled k h s nodes leaves a bytes (answer k h s nodes leaves a (present bytes))
    settles a good n bytes p = settles_by a good n bytes p (verdict k h s nodes leaves a bytes) (judged k h s nodes leaves a bytes) refl

    -- a file that was settled is counted, unless there was no room or two texts are shown
    now_counted : (a : State) (bytes : List ℕ) (x : Answer) → Settled k h s nodes leaves a bytes x → (next k h s nodes leaves a (present bytes)).shown ≡ None → (x ≡ refused Full → ⊥)
        → Among (said k h s nodes leaves bytes) (next k h s nodes leaves a (present bytes)).counted
    now_counted a bytes x (collides t e c) n r = absurd (let z : ◌≡◌ {A = ℕ} 0 1 = cc in omega arith)
    now_counted a bytes x (was_counted m) n r = more_next a (present bytes) (said k h s nodes leaves bytes) m
    now_counted a bytes x (no_room y) n r = absurd (r refl)
    now_counted a bytes x (is_counted e) n r = subst (Among (said k h s nodes leaves bytes)) (sym e) (inl refl)

  pub good_laid : (P : List ℕ → Type 0) → Good k h s nodes leaves P laid
  good_laid P = record { came = λ f m. absurd m; pairs = tt; collide = λ t e. absurd (let z : ◌≡◌ {A = ℕ} 0 1 = cc in omega arith) }

  module _ (laws : Laws k) (hashes : HashLaws h) (root : SoundNode k s.root) (calls : List Call) where
    abbrev P : List ℕ → Type 0
    P bytes = Among (present bytes) calls

    good : Good k h s nodes leaves P (after k h s nodes leaves laid calls)
    good = good_after k h s nodes leaves laws hashes root P calls laid (good_laid P) (λ bytes m. m)

    none_left : (before later : List Call) (bytes : List ℕ) → calls ≡ before ++ (present bytes ∷ later) → (after k h s nodes leaves laid calls).shown ≡ None
        → Passes k h s nodes leaves bytes → (answer k h s nodes leaves (after k h s nodes leaves laid before) (present bytes) ≡ refused Full → ⊥)
        → Among (said k h s nodes leaves bytes) (after k h s nodes leaves laid calls).counted
    none_left before later bytes split n p r =
        let b = after k h s nodes leaves laid before in
        let c = next k h s nodes leaves b (present bytes) in
        let is : after k h s nodes leaves laid calls ≡ after k h s nodes leaves c later = ap (after k h s nodes leaves laid) split ∙ after_both before (present bytes ∷ later) laid in
        let none_c : c.shown ≡ None = none_after later c (ap (λ x. x.shown) (sym is) ∙ n) in
        let none_b : b.shown ≡ None = none_next b (present bytes) none_c in
        let all : List ℕ → Type 0 = λ bytes. Unit {0} in
        let good_b = good_after k h s nodes leaves laws hashes root all before laid (good_laid all) (λ bytes m. tt) in
        let m = now_counted laws hashes root all b bytes (answer k h s nodes leaves b (present bytes)) (settles laws hashes root all b good_b none_b bytes p) none_c r in
        subst (λ x. Among (said k h s nodes leaves bytes) x.counted) (sym is) (more_after later c (said k h s nodes leaves bytes) m)

    holds : HoldsAfter k h s nodes leaves calls (after k h s nodes leaves laid calls)
    holds =
        let a = after k h s nodes leaves laid calls in
        let under = under_total laws hashes root a.counted (counted_passed k h s nodes leaves laws hashes root P a good) good.pairs in
        record {
          tally_holds = record {
            were_presented = λ f m. let c = good.came f m in record { bytes = c.bytes; among = c.presented; passes = c.passes; is = c.is };
            one_each = one_each a.counted good.pairs;
            told = refl;
            under_total = under;
            writable = laws.under_writable (total k (balances a.counted)) s.root.amount under root.1;
          };
          settled = λ n bytes p. settles laws hashes root P a good n bytes p;
          texts_collide = good.collide;
          counting = counting_of a;
          none_left_out = λ n before later bytes split p r. none_left before later bytes split n p r;
        }

pub audit_promise : AuditPromise
audit_promise k laws h hashes s read nodes leaves calls = holds k h s nodes leaves laws hashes (sheet_root k laws h read.bytes s read.unrefused read.is) calls
