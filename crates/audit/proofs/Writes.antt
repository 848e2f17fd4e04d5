-- Writing the new records of a file.
use Rattle.std.proofs.Common.{◌≡◌, ℕ, suc, ◌+◌, ◌*◌, ◌^◌, ◌<◌, ◌≤◌, cond, List, ◌∷◌, is_some, Some, None, sym, refl, ap, ◌∙◌, subst, inl, inr, ⊎_elim, arith}
use Rattle.std.proofs.lemmas.Bool.{cases_lt, cases_eq}
use Rattle.amount.specs.Kinds.{Kind, Laws}
use Rattle.digest.specs.Hashes.{Hash, HashLaws}
use Rattle.node.specs.Texts.{node_bytes}
use Rattle.sheet.specs.Layout.{Sheet}
use Rattle.file.specs.Layout.{File}
use Rattle.verify.proofs.Back.{SoundNode}
use Rattle.store.specs.Meaning.{Meaning}
use Rattle.store.specs.Calls.{Put}
use Rattle.client.proofs.Fills.{limits_join}
use Rattle.audit.specs.Audits.{State, place_at, text_at}
use Rattle.audit.specs.Promise.{Among}
use Rattle.audit.specs.Notebook.{left_record, right_record, left_place, right_place, ChildOf, KeepsNodes, KeepsLeaves, Keeps, noted, Walked, WroteNodes}
use Rattle.audit.proofs.Files.{Passed}
use Rattle.audit.proofs.Trees.{below}
use Rattle.audit.proofs.Heights.{one_height, one_parent, on_path}
use Rattle.audit.proofs.Notebook.{noted_by, same_text, alone, finds_empty, absent_leaf}

-- a new key takes one from the room
new_room : (m n : Meaning) (c p : ℕ) (r : List ℕ) → Put m n c p r → m.find c p ≡ None → n.room + 1 ≡ m.room
new_room m n c p r w e =
    let one : cond {A = ℕ} (is_some (m.find c p)) 0 1 ≡ 1 = ap (λ o. cond {A = ℕ} (is_some o) 0 1) e in
    let q = w.room in
    omega arith

module _ (k : Kind) (h : Hash) (s : Sheet) where
  pub wrote_none : (m : Meaning) (f : File) → WroteNodes k h s m m f 0
  wrote_none m f = record {
    limits = record { width = refl; first = refl; last = refl; bound = refl };
    room = omega arith;
    on_left = λ i l. absurd (omega arith);
    on_right = λ i l. absurd (omega arith);
    off = λ c p n. refl;
  }

  -- children of one path at different heights are different
  other_child : (f : File) → f.leaf < 2 ^ s.depth → (i j p : ℕ) → i < s.depth → j < s.depth → (i ≡ j → ⊥) → ChildOf k h s f i p → ChildOf k h s f j p → ⊥
  other_child f low i j p a b n c d =
      let e = one_height k h s f f (suc i) (suc j) low low a b (one_parent k h s f f i j p c d) in
      n (omega arith)

  -- both records of the next height
  pub wrote_more : (m x y n : Meaning) (f : File) (j : ℕ) → f.leaf < 2 ^ s.depth → j < s.depth → WroteNodes k h s m x f j
      → Put x y s.closing (left_place k h s f j) (left_record k h s f j) → Put y n s.closing (right_place k h s f j) (right_record k h s f j)
      → m.find s.closing (left_place k h s f j) ≡ None → m.find s.closing (right_place k h s f j) ≡ None → WroteNodes k h s m n f (suc j)
  wrote_more m x y n f j low b w u v el er =
      let c = s.closing in
      let fresh : (p : ℕ) → ChildOf k h s f j p → x.find c p ≡ m.find c p = λ p d. w.off c p (λ _ i l e. other_child f low i j p (before i l) b (less i l) e d) in
      let old : (i : ℕ) → i < j → (p : ℕ) → ChildOf k h s f i p → n.find c p ≡ x.find c p =
      λ i l p d. v.others c p (λ _ e. other_child f low i j p (before i l) b (less i l) d (inr e)) ∙ u.others c p (λ _ e. other_child f low i j p (before i l) b (less i l) d (inl e)) in
      let left_there : n.find c (left_place k h s f j) ≡ Some (left_record k h s f j) = v.others c (left_place k h s f j) (λ _ e. sides (left_place k h s f j) e) ∙ u.here in
      let room_left = new_room x y c (left_place k h s f j) (left_record k h s f j) u (fresh (left_place k h s f j) (inl refl) ∙ el) in
      let room_right = new_room y n c (right_place k h s f j) (right_record k h s f j) v
      (u.others c (right_place k h s f j) (λ _ e. sides (left_place k h s f j) (sym e)) ∙ fresh (right_place k h s f j) (inr refl) ∙ er) in
      let room_before = w.room in
      record {
        limits = limits_join m y n (limits_join m x y w.limits u.limits) v.limits;
        room = omega arith;
        on_left = λ i l. ⊎_elim (λ (q : i < j). old i q (left_place k h s f i) (inl refl) ∙ w.on_left i q)
            (λ (q : j ≤ i). subst (λ z. n.find c (left_place k h s f z) ≡ Some (left_record k h s f z)) (top i l q) left_there) (cases_lt i j);
        on_right = λ i l. ⊎_elim (λ (q : i < j). old i q (right_place k h s f i) (inr refl) ∙ w.on_right i q)
            (λ (q : j ≤ i). subst (λ z. n.find c (right_place k h s f z) ≡ Some (right_record k h s f z)) (top i l q) v.here) (cases_lt i j);
        off = λ d p z. v.others d p (λ e q. z e j (omega arith) (inr q)) ∙ u.others d p (λ e q. z e j (omega arith) (inl q))
            ∙ w.off d p (λ e i l q. z e i (up i l) q);
      }
    where
      before : (i : ℕ) → i < j → i < s.depth
      before i l = omega arith

      less : (i : ℕ) → i < j → i ≡ j → ⊥
      less i l e = omega arith

      up : (i : ℕ) → i < j → i < suc j
      up i l = omega arith

      top : (i : ℕ) → i < suc j → j ≤ i → j ≡ i
      top i l q = omega arith

      sides : (p : ℕ) → p ≡ p + 1 → ⊥
      sides p e = omega arith

module _ {k : Kind} (laws : Laws k) {h : Hash} (hashes : HashLaws h) {s : Sheet} (root : SoundNode k s.root) {nodes leaves N L : Meaning} {a : State} (keeps : Keeps k h s nodes leaves N L a)
    (ok : (g : File) → Among g a.counted → Passed k h s g) (f : File) (p : Passed k h s f)
    (j : ℕ) (l : j ≤ s.depth) (w : Walked k h s N L f j) (empty : noted k h s N L j (place_at k h s f j) ≡ None) where
  -- no record of a counted file is written over
  untouched : (g : File) → Among g a.counted → (i : ℕ) → i < s.depth → (q : ℕ) → ChildOf k h s g i q → (z : ℕ) → z < j → ChildOf k h s f z q → ⊥
  untouched g m i b q c z t d =
      let same = one_parent k h s g f i z q c d in
      let e = one_height k h s g f (suc i) (suc z) (ok g m).leaf_low p.leaf_low b (omega arith) same in
      alone keeps ok f p j l empty (suc z) t g m (ap (place_at k h s g) (sym e) ∙ same)

  module _ (M : Meaning) (written : WroteNodes k h s N M f j) where
    -- above the empty place f's records are those of a counted file
    higher : (i : ℕ) → j ≤ i → i < s.depth
        → (M.find s.closing (left_place k h s f i) ≡ Some (left_record k h s f i)) × (M.find s.closing (right_place k h s f i) ≡ Some (right_record k h s f i))
    higher i t b =
        let text = w (suc i) (omega arith) b in
        let g = noted_by keeps ok f p (suc i) b (text_at k h s f (suc i)) text in
        let same = same_text keeps ok f p (suc i) b (text_at k h s f (suc i)) text g.0 g.1 g.2 in
        let nodes_same = below laws hashes root g.0 f (ok g.0 g.1) p i b same in
        let kept : (q : ℕ) → ChildOf k h s g.0 i q → M.find s.closing q ≡ N.find s.closing q = λ q c. written.off s.closing q (λ _ z t d. untouched g.0 g.1 i b q c z t d) in (
          ap (λ x. M.find s.closing (2 * x)) (sym g.2) ∙ kept (left_place k h s g.0 i) (inl refl) ∙ keeps.of_nodes.has_left g.0 g.1 i b ∙ ap (λ x. Some (node_bytes k x)) nodes_same.0,
          ap (λ x. M.find s.closing (2 * x + 1)) (sym g.2) ∙ kept (right_place k h s g.0 i) (inr refl) ∙ keeps.of_nodes.has_right g.0 g.1 i b ∙ ap (λ x. Some (node_bytes k x)) nodes_same.1,
        )

    of_nodes_more : KeepsNodes k h s nodes M (f ∷ a.counted)
    of_nodes_more =
        let own_left : (i : ℕ) → i < s.depth → M.find s.closing (left_place k h s f i) ≡ Some (left_record k h s f i) =
        λ i b. ⊎_elim (λ (t : i < j). written.on_left i t) (λ (t : j ≤ i). (higher i t b).0) (cases_lt i j) in
        let own_right : (i : ℕ) → i < s.depth → M.find s.closing (right_place k h s f i) ≡ Some (right_record k h s f i) =
        λ i b. ⊎_elim (λ (t : i < j). written.on_right i t) (λ (t : j ≤ i). (higher i t b).1) (cases_lt i j) in
        let new = (finds_empty keeps ok f p j l w empty).2 in
        let room_then = keeps.of_nodes.room in
        let room_now = written.room in
        record {
          limits = limits_join nodes N M keeps.of_nodes.limits written.limits;
          room = omega arith;
          has_left = λ g. ⊎_elim (λ e. subst (λ x. (i : ℕ) → i < s.depth → M.find s.closing (left_place k h s x i) ≡ Some (left_record k h s x i)) (sym e) own_left)
              (λ m i b. written.off s.closing (left_place k h s g i) (λ _ z t d. untouched g m i b (left_place k h s g i) (inl refl) z t d) ∙ keeps.of_nodes.has_left g m i b);
          has_right = λ g. ⊎_elim (λ e. subst (λ x. (i : ℕ) → i < s.depth → M.find s.closing (right_place k h s x i) ≡ Some (right_record k h s x i)) (sym e) own_right)
              (λ m i b. written.off s.closing (right_place k h s g i) (λ _ z t d. untouched g m i b (right_place k h s g i) (inr refl) z t d) ∙ keeps.of_nodes.has_right g m i b);
          only = λ q r e. ⊎_elim (λ x. (f, inl refl, x.0, within x.0 x.1, x.2))
              (λ out. let o = keeps.of_nodes.only q r (sym (written.off s.closing q (λ _ z t d. out z t d)) ∙ e) in (o.0, inr o.1, o.2, o.3, o.4))
              (on_path k h s f q j);
          others = λ c q n. written.off c q (λ e. absurd (n e)) ∙ keeps.of_nodes.others c q n;
        }
      where
        within : (i : ℕ) → i < j → i < s.depth
        within i t = omega arith

  of_leaves_more : (K : Meaning) → Put L K s.closing (place_at k h s f 0) (text_at k h s f 0) → L.find s.closing (place_at k h s f 0) ≡ None → KeepsLeaves k h s leaves K (f ∷ a.counted)
  of_leaves_more K put none =
      let room_then = keeps.of_leaves.room in
      let room_now = new_room L K s.closing (place_at k h s f 0) (text_at k h s f 0) put none in
      record {
        limits = limits_join leaves L K keeps.of_leaves.limits put.limits;
        room = omega arith;
        has = λ g. ⊎_elim (λ e. subst (λ x. K.find s.closing (place_at k h s x 0) ≡ Some (text_at k h s x 0)) (sym e) put.here)
            (λ m. put.others s.closing (place_at k h s g 0) (λ _ e. alone keeps ok f p j l empty 0 (omega arith) g m e) ∙ keeps.of_leaves.has g m);
        only = λ q r e. ⊎_elim (λ x. (f, inl refl, x))
            (λ n. let o = keeps.of_leaves.only q r (sym (put.others s.closing q (λ _ x. n x)) ∙ e) in (o.0, inr o.1, o.2))
            (cases_eq q (place_at k h s f 0));
        others = λ c q n. put.others c q (λ e. absurd (n e)) ∙ keeps.of_leaves.others c q n;
      }

  -- The notebook with the new records of f, from an empty place down, keeps f as well.
  pub keeps_more : (M K : Meaning) → WroteNodes k h s N M f j → Put L K s.closing (place_at k h s f 0) (text_at k h s f 0)
      → Keeps k h s nodes leaves M K (record { counted = f ∷ a.counted; shown = a.shown })
  keeps_more M K written put = record { of_nodes = of_nodes_more M written; of_leaves = of_leaves_more K put (absent_leaf keeps ok f p j l empty) }
