-- What the bytes say after a record is pushed on a bucket.
use Rattle.std.proofs.Common.{◌≡◌, ℕ, ◌+◌, ◌-◌, ◌*◌, ◌<◌, ◌≤◌, ◌⊎◌, List, length, get_or, sym, ap, ◌∙◌, inl, inr, arith}
use Rattle.std.proofs.lemmas.Bool.{cases_order}
use Rattle.memory.specs.Four.{be4, put4}
use Rattle.memory.proofs.Fours.{length_put4, getD_put4, be4_put4_same, be4_put4_other}
use Rattle.memory.specs.Part.{part}
use Rattle.memory.proofs.Parts.{length_patch, getD_patch, part_patch, part_same}
use Rattle.chained_theory.specs.Layout.{start_of, next_at, closing_at, place_at, head_at, filled, push_on, front_of}
use Rattle.chained_theory.specs.Links.{Pushed, Fronted}
use Rattle.chained_theory.proofs.Walks.{next_record, record_fits}

-- four bytes that stay
pub be4_same : (xs ys : List ℕ) (j : ℕ) → ((k : ℕ) → j ≤ k → k < j + 4 → get_or ys k 0 ≡ get_or xs k 0) → be4 ys j ≡ be4 xs j
be4_same xs ys j h =
    let a : get_or ys j 0 ≡ get_or xs j 0 = h j (omega arith) (omega arith) in
    let b : get_or ys (j + 1) 0 ≡ get_or xs (j + 1) 0 = h (j + 1) (omega arith) (omega arith) in
    let c : get_or ys (j + 2) 0 ≡ get_or xs (j + 2) 0 = h (j + 2) (omega arith) (omega arith) in
    let d : get_or ys (j + 3) 0 ≡ get_or xs (j + 3) 0 = h (j + 3) (omega arith) (omega arith) in
    omega arith

module _ (mem : List ℕ) (i next c p : ℕ) (r : List ℕ) (fits : i + 12 + length r ≤ length mem) where
  abbrev m1 : List ℕ
  m1 = put4 mem i next

  abbrev m2 : List ℕ
  m2 = put4 (put4 mem i next) (i + 4) c

  abbrev m3 : List ℕ
  m3 = put4 (put4 (put4 mem i next) (i + 4) c) (i + 8) p

  l1 : length m1 ≡ length mem
  l1 = length_put4 mem i next

  l2 : length m2 ≡ length mem
  l2 = length_put4 m1 (i + 4) c ∙ l1

  l3 : length m3 ≡ length mem
  l3 = length_put4 m2 (i + 8) p ∙ l2

  fit : i + 12 + length r ≤ length m3
  fit = omega (arith, l3)

  pub length_filled : length (filled mem i next c p r) ≡ length mem
  unfolding filled
  length_filled = length_patch m3 (i + 12) r fit ∙ l3

  far : (k : ℕ) → (k < i + 12) ⊎ (i + 12 + length r ≤ k) → get_or (filled mem i next c p r) k 0 ≡ get_or m3 k 0
  unfolding filled
  far k o = getD_patch m3 (i + 12) r fit k o

  pub getD_filled : (k : ℕ) → (k < i) ⊎ (i + 12 + length r ≤ k) → get_or (filled mem i next c p r) k 0 ≡ get_or mem k 0
  getD_filled k (inl h) = far k (inl (omega arith)) ∙ getD_put4 m2 (i + 8) p k (inl (omega arith)) ∙ getD_put4 m1 (i + 4) c k (inl (omega arith)) ∙ getD_put4 mem i next k (inl h)
  getD_filled k (inr h) = far k (inr h) ∙ getD_put4 m2 (i + 8) p k (inr (omega arith)) ∙ getD_put4 m1 (i + 4) c k (inr (omega arith)) ∙ getD_put4 mem i next k (inr (omega arith))

  pub filled_next : be4 (filled mem i next c p r) i ≡ next
  filled_next = be4_same m3 (filled mem i next c p r) i (λ k a b. far k (inl (omega arith))) ∙ be4_put4_other m2 (i + 8) p i (inl (omega arith)) ∙ be4_put4_other m1 (i + 4) c i (inl (omega arith)) ∙ be4_put4_same mem i next (omega arith)

  pub filled_closing : be4 (filled mem i next c p r) (i + 4) ≡ c
  filled_closing = be4_same m3 (filled mem i next c p r) (i + 4) (λ k a b. far k (inl (omega arith))) ∙ be4_put4_other m2 (i + 8) p (i + 4) (inl (omega arith)) ∙ be4_put4_same m1 (i + 4) c (omega (arith, l1))

  pub filled_place : be4 (filled mem i next c p r) (i + 8) ≡ p
  filled_place = be4_same m3 (filled mem i next c p r) (i + 8) (λ k a b. far k (inl (omega arith))) ∙ be4_put4_same m2 (i + 8) p (omega (arith, l2))

  pub filled_bytes : part (filled mem i next c p r) (i + 12) (length r) ≡ r
  unfolding filled
  filled_bytes = part_patch m3 (i + 12) r fit

-- records lie apart
pub apart : (w x y : ℕ) → 1 ≤ x → 1 ≤ y → (y ≡ x → ⊥) → (start_of w y + (12 + w) ≤ start_of w x) ⊎ (start_of w x + (12 + w) ≤ start_of w y)
unfolding start_of
apart w x y a b ne =
    elim (cases_order (y - 1) (x - 1)) [
      | inl e ↦ (let z : ⊥ = ne (omega arith) in absurd z)
      | inr (inl h) ↦ inl (omega (arith, next_record (y - 1) (x - 1) (12 + w) h))
      | inr (inr h) ↦ inr (omega (arith, next_record (x - 1) (y - 1) (12 + w) h))
    ]

pub past_heads : (w x : ℕ) → 68 ≤ start_of w x
unfolding start_of
past_heads w x = omega arith

pub pushes : (mem : List ℕ) (w n x b c p : ℕ) (r : List ℕ) → 68 + n * (12 + w) ≤ length mem → 1 ≤ x → x ≤ n → 1 ≤ b → b < 17 → length r ≡ w → Pushed mem (push_on mem w x b c p r) w n x b c p r
unfolding push_on next_at closing_at place_at head_at
pushes mem w n x b c p r fits low high blow bhigh wide =
    let i : ℕ = start_of w x in
    let in_mem : i + (12 + w) ≤ 68 + n * (12 + w) = record_fits w n x low high in
    let past : 68 ≤ i = past_heads w x in
    let fit : i + 12 + length r ≤ length mem = omega arith in
    let f : List ℕ = filled mem i (be4 mem (4 * b)) c p r in
    let lf : length f ≡ length mem = length_filled mem i (be4 mem (4 * b)) c p r fit in
    let g : List ℕ = put4 f 0 (be4 mem i) in
    let lg : length g ≡ length mem = length_put4 f 0 (be4 mem i) ∙ lf in
    let h : List ℕ = put4 g (4 * b) x in
    let lh : length h ≡ length mem = length_put4 g (4 * b) x ∙ lg in
    let past_two : (k : ℕ) → 68 ≤ k → get_or h k 0 ≡ get_or f k 0 = λ k a. getD_put4 g (4 * b) x k (inr (omega arith)) ∙ getD_put4 f 0 (be4 mem i) k (inr (omega arith)) in
    let four : (j : ℕ) → 68 ≤ j → be4 h j ≡ be4 f j = λ j a. be4_same f h j (λ k u v. past_two k (omega arith)) in
    let away : (y : ℕ) → 1 ≤ y → (y ≡ x → ⊥) → (k : ℕ) → start_of w y ≤ k → k < start_of w y + (12 + w) → get_or h k 0 ≡ get_or mem k 0 =
    λ y a d k u v. past_two k (omega (arith, past_heads w y)) ∙ getD_filled mem i (be4 mem (4 * b)) c p r fit k (elim (apart w x y low a d) [ inl o ↦ inl (omega arith) | inr o ↦ inr (omega arith) ]) in
    record {
      head0 = be4_put4_other g (4 * b) x 0 (inl (omega arith)) ∙ be4_put4_same f 0 (be4 mem i) (omega arith);
      headb = be4_put4_same g (4 * b) x (omega arith);
      heads = λ j a z d. be4_put4_other g (4 * b) x (4 * j) (elim (cases_order j b) [ inl e ↦ absurd (d e) | inr (inl e) ↦ inl (omega arith) | inr (inr e) ↦ inr (omega arith) ])
          ∙ be4_put4_other f 0 (be4 mem i) (4 * j) (inr (omega arith))
          ∙ be4_same mem f (4 * j) (λ k u v. getD_filled mem i (be4 mem (4 * b)) c p r fit k (inl (omega arith)));
      next = four i past ∙ filled_next mem i (be4 mem (4 * b)) c p r fit;
      closing = four (i + 4) (omega arith) ∙ filled_closing mem i (be4 mem (4 * b)) c p r fit;
      place = four (i + 8) (omega arith) ∙ filled_place mem i (be4 mem (4 * b)) c p r fit;
      bytes = part_same f h (i + 12) w (lh ∙ sym lf) (λ k u v. past_two k (omega arith)) ∙ ap (part f (i + 12)) (sym wide) ∙ filled_bytes mem i (be4 mem (4 * b)) c p r fit;
      others = λ y a e d.
          let z : ℕ = start_of w y in
          record {
            next = be4_same mem h z (λ k u v. away y a d k u (omega arith));
            closing = be4_same mem h (z + 4) (λ k u v. away y a d k (omega arith) (omega arith));
            place = be4_same mem h (z + 8) (λ k u v. away y a d k (omega arith) (omega arith));
          };
      kept = λ y a e d. part_same mem h (start_of w y + 12) w lh (λ k u v. away y a d k (omega arith) (omega arith));
    }

pub fronts : (mem : List ℕ) (w n x b k : ℕ) → 68 + n * (12 + w) ≤ length mem → 1 ≤ x → x ≤ n → b < 17 → Fronted mem (front_of mem (start_of w x) x b k) w n x b k
unfolding front_of next_at closing_at place_at head_at
fronts mem w n x b k fits low high bhigh =
    let i : ℕ = start_of w x in
    let in_mem : i + (12 + w) ≤ 68 + n * (12 + w) = record_fits w n x low high in
    let past : 68 ≤ i = past_heads w x in
    let m1 : List ℕ = put4 mem (i + 4) k in
    let l1 : length m1 ≡ length mem = length_put4 mem (i + 4) k in
    let head : ℕ = be4 m1 (4 * b) in
    let m2 : List ℕ = put4 m1 i head in
    let l2 : length m2 ≡ length mem = length_put4 m1 i head ∙ l1 in
    let h : List ℕ = put4 m2 (4 * b) x in
    let lh : length h ≡ length mem = length_put4 m2 (4 * b) x ∙ l2 in
    let four : (j : ℕ) → 68 ≤ j → be4 h j ≡ be4 m2 j = λ j a. be4_put4_other m2 (4 * b) x j (inr (omega arith)) in
    let stays : (q : ℕ) → 68 ≤ q → (q < i) ⊎ (i + 8 ≤ q) → get_or h q 0 ≡ get_or mem q 0 = λ q a o. getD_put4 m2 (4 * b) x q (inr (omega arith))
    ∙ elim o [ inl y ↦ getD_put4 m1 i head q (inl y) ∙ getD_put4 mem (i + 4) k q (inl (omega arith)) | inr y ↦ getD_put4 m1 i head q (inr (omega arith)) ∙ getD_put4 mem (i + 4) k q (inr (omega arith)) ] in
    let away : (y : ℕ) → 1 ≤ y → (y ≡ x → ⊥) → (q : ℕ) → start_of w y ≤ q → q < start_of w y + (12 + w) → get_or h q 0 ≡ get_or mem q 0 =
    λ y a d q u v. stays q (omega (arith, past_heads w y)) (elim (apart w x y low a d) [ inl o ↦ inl (omega arith) | inr o ↦ inr (omega arith) ]) in
    record {
      headb = be4_put4_same m2 (4 * b) x (omega arith);
      heads = λ j a d. be4_put4_other m2 (4 * b) x (4 * j) (elim (cases_order j b) [ inl e ↦ absurd (d e) | inr (inl e) ↦ inl (omega arith) | inr (inr e) ↦ inr (omega arith) ])
          ∙ be4_put4_other m1 i head (4 * j) (inl (omega arith)) ∙ be4_put4_other mem (i + 4) k (4 * j) (inl (omega arith));
      next = four i past ∙ be4_put4_same m1 i head (omega arith) ∙ be4_put4_other mem (i + 4) k (4 * b) (inl (omega arith));
      closing = four (i + 4) (omega arith) ∙ be4_put4_other m1 i head (i + 4) (inr (omega arith)) ∙ be4_put4_same mem (i + 4) k (omega arith);
      place = four (i + 8) (omega arith) ∙ be4_put4_other m1 i head (i + 8) (inr (omega arith)) ∙ be4_put4_other mem (i + 4) k (i + 8) (inr (omega arith));
      bytes = part_same mem h (i + 12) w lh (λ q u v. stays q (omega arith) (inr (omega arith)));
      others = λ y a e d.
          let z : ℕ = start_of w y in
          record {
            next = be4_same mem h z (λ q u v. away y a d q u (omega arith));
            closing = be4_same mem h (z + 4) (λ q u v. away y a d q (omega arith) (omega arith));
            place = be4_same mem h (z + 8) (λ q u v. away y a d q (omega arith) (omega arith));
          };
      kept = λ y a e d. part_same mem h (start_of w y + 12) w lh (λ q u v. away y a d q (omega arith) (omega arith));
    }

-- what lies past the heads says what it said
pub record Past (mem mem' : List ℕ) (w : ℕ) : Type 0 where
  pub closing : (y : ℕ) → closing_at mem' w y ≡ closing_at mem w y
  pub place : (y : ℕ) → place_at mem' w y ≡ place_at mem w y
  pub bytes : (y : ℕ) → part mem' (start_of w y + 12) w ≡ part mem (start_of w y + 12) w

pub past_same : (mem mem' : List ℕ) (w : ℕ) → length mem' ≡ length mem → ((k : ℕ) → 68 ≤ k → get_or mem' k 0 ≡ get_or mem k 0) → Past mem mem' w
unfolding closing_at place_at
past_same mem mem' w l h = record {
  closing = λ y. be4_same mem mem' (start_of w y + 4) (λ k a b. h k (omega (arith, past_heads w y)));
  place = λ y. be4_same mem mem' (start_of w y + 8) (λ k a b. h k (omega (arith, past_heads w y)));
  bytes = λ y. part_same mem mem' (start_of w y + 12) w l (λ k a b. h k (omega (arith, past_heads w y)));
}
