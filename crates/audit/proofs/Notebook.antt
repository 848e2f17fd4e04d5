-- What the notebook tells of a file, and what writing to it keeps.
use Rattle.std.proofs.Common.{◌≡◌, ℕ, zero, suc, ◌+◌, ◌*◌, ◌<◌, ◌≤◌, Bool, true, false, ◌||◌, ltb, List, length, Some, None, Option, sym, refl, ap, ◌∙◌, inl, ⊎_elim, arith, ltb→lt, lt→ltb}
use Rattle.std.proofs.lemmas.Bool.{cases_lt}
use Rattle.octets.proofs.Passes.{true_T, false_T, T_true}
use Rattle.amount.specs.Kinds.{Kind}
use Rattle.digest.specs.Hashes.{Hash}
use Rattle.sheet.specs.Layout.{Sheet}
use Rattle.file.specs.Layout.{File}
use Rattle.store.specs.Meaning.{Meaning}
use Rattle.audit.specs.Audits.{State, laid, place_at, text_at, through, two_at, clash, used_nodes, new_nodes, full}
use Rattle.audit.specs.Promise.{Among}
use Rattle.audit.specs.Notebook.{both, left_record, right_record, left_place, right_place, ChildOf, Keeps, noted, Walked}
use Rattle.audit.proofs.Files.{Passed}
use Rattle.audit.proofs.Finds.{Meet, agree_two, other_two, clash_none, clash_some, through_in, through_none, new_count}
use Rattle.audit.proofs.Heights.{one_height, stay, one_parent}

some_same : (a b : List ℕ) → ◌≡◌ {A = Option (List ℕ)} (Some a) (Some b) → a ≡ b
some_same a b e = cc

none_some : (o : Option (List ℕ)) (a : List ℕ) → o ≡ None → o ≡ Some a → ⊥
none_some o a p q = let z : ◌≡◌ {A = ℕ} 0 1 = cc in omega arith

both_out : (o q : Option (List ℕ)) (t : List ℕ) → both o q ≡ Some t → (l : List ℕ) × (o ≡ Some l)
both_out None q t e = absurd (none_some None t refl e)
both_out (Some l) q t e = (l, refl)

-- an option that is not some is none
absent : (o : Option (List ℕ)) → ((r : List ℕ) → o ≡ Some r → ⊥) → o ≡ None
absent None f = refl
absent (Some r) f = absurd (f r refl)

less_same : (room used start new : ℕ) → room + used ≡ start → ltb start (used + new) ≡ ltb room new
less_same room used start new e = which (ltb room new) refl
  where
    which : (b : Bool) → ltb room new ≡ b → ltb start (used + new) ≡ b
    which true q = let l = ltb→lt room new (T_true (ltb room new) q) in true_T (ltb start (used + new)) (lt→ltb start (used + new) (omega arith))
    which false q =
        false_T (ltb start (used + new)) (λ t.
        let l = ltb→lt start (used + new) t in
        let b : ltb room new ≡ true = true_T (ltb room new) (lt→ltb room new (omega arith)) in
        let z : ◌≡◌ {A = ℕ} 0 1 = cc in omega arith)

-- right after laying
pub keeps_laid : (k : Kind) (h : Hash) (s : Sheet) (nodes leaves : Meaning) → ((p : ℕ) → nodes.find s.closing p ≡ None) → ((p : ℕ) → leaves.find s.closing p ≡ None)
    → Keeps k h s nodes leaves nodes leaves laid
keeps_laid k h s nodes leaves x y = record {
  of_nodes = record {
    limits = record { width = refl; first = refl; last = refl; bound = refl };
    room = omega arith;
    has_left = λ g m. absurd m;
    has_right = λ g m. absurd m;
    only = λ p r e. absurd (none_some (nodes.find s.closing p) r (x p) e);
    others = λ c p n. refl;
  };
  of_leaves = record {
    limits = record { width = refl; first = refl; last = refl; bound = refl };
    room = omega arith;
    has = λ g m. absurd m;
    only = λ p r e. absurd (none_some (leaves.find s.closing p) r (y p) e);
    others = λ c p n. refl;
  };
}

module _ {k : Kind} {h : Hash} {s : Sheet} {nodes leaves N L : Meaning} {a : State} (keeps : Keeps k h s nodes leaves N L a) where
  -- want of room, seen from the stores as they are
  pub full_is : (f : File) → full k h s nodes leaves a.counted f ≡ ltb N.room (new_nodes k h s a.counted f) || ltb L.room 1
  full_is f =
      let u = used_nodes k h s a.counted in
      ap (λ b. b || ltb leaves.room (length a.counted + 1)) (less_same N.room u nodes.room (new_nodes k h s a.counted f) keeps.of_nodes.room)
      ∙ ap (λ b. ltb N.room (new_nodes k h s a.counted f) || b) (less_same L.room (length a.counted) leaves.room 1 keeps.of_leaves.room)

  module _ (ok : (g : File) → Among g a.counted → Passed k h s g) (f : File) (p : Passed k h s f) where
    -- a counted file that meets f has its text noted there
    noted_has : (j : ℕ) → j ≤ s.depth → (g : File) → Among g a.counted → Meet k h s g f j → noted k h s N L j (place_at k h s f j) ≡ Some (text_at k h s g j)
    noted_has zero l g m e = ap (L.find s.closing) (sym e) ∙ keeps.of_leaves.has g m
    noted_has (suc j) l g m e =
        ap (λ x. both (N.find s.closing (2 * x)) (N.find s.closing (2 * x + 1))) (sym e)
        ∙ ap (λ o. both o (N.find s.closing (right_place k h s g j))) (keeps.of_nodes.has_left g m j l)
        ∙ ap (both (Some (left_record k h s g j))) (keeps.of_nodes.has_right g m j l)

    -- a record below a place of f's path is that of a counted file that meets f
    child_of : (j : ℕ) → j < s.depth → (q : ℕ) (r : List ℕ) → ChildOf k h s f j q → N.find s.closing q ≡ Some r → (g : File) × Among g a.counted × Meet k h s g f (suc j)
    child_of j l q r c e =
        let o = keeps.of_nodes.only q r e in
        let same : place_at k h s f (suc j) ≡ place_at k h s o.0 (suc o.2) = one_parent k h s f o.0 j o.2 q c o.4 in
        let i = one_height k h s o.0 f (suc o.2) (suc j) (ok o.0 o.1).leaf_low p.leaf_low o.3 l (sym same) in
        (o.0, o.1, ap (place_at k h s o.0) (sym i) ∙ sym same)

    -- who has a text that is noted
    pub noted_by : (j : ℕ) → j ≤ s.depth → (t : List ℕ) → noted k h s N L j (place_at k h s f j) ≡ Some t → (g : File) × Among g a.counted × Meet k h s g f j
    noted_by zero l t e = let o = keeps.of_leaves.only (place_at k h s f 0) t e in (o.0, o.1, sym o.2)
    noted_by (suc j) l t e =
        let b = both_out (N.find s.closing (left_place k h s f j)) (N.find s.closing (right_place k h s f j)) t e in
        child_of j l (left_place k h s f j) b.0 (inl refl) b.1

    -- where one child's record is there, both are, those of one counted file
    pub children_there : (j : ℕ) → j < s.depth → (q : ℕ) (r : List ℕ) → ChildOf k h s f j q → N.find s.closing q ≡ Some r
        → (g : File) × Among g a.counted × (N.find s.closing (left_place k h s f j) ≡ Some (left_record k h s g j)) × (N.find s.closing (right_place k h s f j) ≡ Some (right_record k h s g j))
    children_there j l q r c e =
        let g = child_of j l q r c e in (
          g.0,
          g.1,
          ap (λ x. N.find s.closing (2 * x)) (sym g.2) ∙ keeps.of_nodes.has_left g.0 g.1 j l,
          ap (λ x. N.find s.closing (2 * x + 1)) (sym g.2) ∙ keeps.of_nodes.has_right g.0 g.1 j l,
        )

    pub same_text : (j : ℕ) → j ≤ s.depth → (t : List ℕ) → noted k h s N L j (place_at k h s f j) ≡ Some t → (g : File) → Among g a.counted → Meet k h s g f j → text_at k h s g j ≡ t
    same_text j l t e g m q = some_same (text_at k h s g j) t (sym (noted_has j l g m q) ∙ e)

    agree_above : (j : ℕ) → Walked k h s N L f j → (i : ℕ) → j < i → i ≤ s.depth → two_at k h s a.counted f i ≡ None
    agree_above j w i b l = agree_two k h s a.counted f i (same_text i l (text_at k h s f i) (w i b l))

    -- Another text: the first one from the root down.
    pub finds_other : (j : ℕ) → j ≤ s.depth → Walked k h s N L f j → (t : List ℕ) → noted k h s N L j (place_at k h s f j) ≡ Some t → (t ≡ text_at k h s f j → ⊥)
        → clash k h s a.counted f ≡ Some (record { stored = t; offered = text_at k h s f j })
    finds_other j l w t e n =
        let g = noted_by j l t e in
        clash_some k h s a.counted f s.depth j (record { stored = t; offered = text_at k h s f j }) l (agree_above j w)
        (other_two k h s a.counted f j t (same_text j l t e) n g.0 g.1 g.2)

    -- no path meets that of f at or below an empty place
    pub alone : (j : ℕ) → j ≤ s.depth → noted k h s N L j (place_at k h s f j) ≡ None → (i : ℕ) → i ≤ j → (g : File) → Among g a.counted → Meet k h s g f i → ⊥
    alone j l e i b g m q = none_some (noted k h s N L j (place_at k h s f j)) (text_at k h s g j) e (noted_has j l g m (stay k h s g f i j b q))

    -- An empty place: no two texts, a leaf that is not counted, and two new records for each height up to this one.
    pub finds_empty : (j : ℕ) → j ≤ s.depth → Walked k h s N L f j → noted k h s N L j (place_at k h s f j) ≡ None
        → (clash k h s a.counted f ≡ None) × (through k h s a.counted f 0 ≡ false) × (new_nodes k h s a.counted f ≡ 2 * j)
    finds_empty j l w e =
        let no_path : (i : ℕ) → i ≤ j → through k h s a.counted f i ≡ false = λ i b. through_none k h s a.counted f i (alone j l e i b) in (
          clash_none k h s a.counted f s.depth (λ i b. ⊎_elim (λ (c : j < i). agree_above j w i c b)
              (λ (c : i ≤ j). agree_two k h s a.counted f i (λ g m q. absurd (alone j l e i c g m q))) (cases_lt j i)),
          no_path 0 (omega arith),
          ap (λ n. 2 * n) (new_count k h s a.counted f s.depth j l no_path (λ i b c.
              let g = noted_by i c (text_at k h s f i) (w i b c) in through_in k h s a.counted f i g.0 g.1 g.2)),
        )

    -- Every text down to the leaf's: counted before.
    pub finds_whole : Walked k h s N L f 0 → noted k h s N L 0 (place_at k h s f 0) ≡ Some (text_at k h s f 0)
        → (clash k h s a.counted f ≡ None) × (through k h s a.counted f 0 ≡ true)
    finds_whole w e =
        let at : (j : ℕ) → j ≤ s.depth → noted k h s N L j (place_at k h s f j) ≡ Some (text_at k h s f j) = elim [ zero ↦ λ _. e | suc j ↦ λ l. w (suc j) (omega arith) l ] in
        let g = noted_by 0 (omega arith) (text_at k h s f 0) e in (
          clash_none k h s a.counted f s.depth (λ j l. agree_two k h s a.counted f j (same_text j l (text_at k h s f j) (at j l))),
          through_in k h s a.counted f 0 g.0 g.1 g.2,
        )

    -- at and below an empty place no record of f is there
    pub absent_below : (j : ℕ) → j ≤ s.depth → noted k h s N L j (place_at k h s f j) ≡ None → (i : ℕ) → i < j → (q : ℕ) → ChildOf k h s f i q → N.find s.closing q ≡ None
    absent_below j l e i b q c =
        absent (N.find s.closing q) (λ r x. let g = child_of i (omega arith) q r c x in alone j l e (suc i) b g.0 g.1 g.2)

    pub absent_leaf : (j : ℕ) → j ≤ s.depth → noted k h s N L j (place_at k h s f j) ≡ None → L.find s.closing (place_at k h s f 0) ≡ None
    absent_leaf j l e =
        absent (L.find s.closing (place_at k h s f 0)) (λ r x. let g = noted_by 0 (omega arith) r x in alone j l e 0 (omega arith) g.0 g.1 g.2)
