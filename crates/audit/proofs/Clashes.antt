-- What the walk down from the root finds: the first place with another text, or that all texts are the same.
use Rattle.std.proofs.Common.{◌≡◌, ℕ, zero, suc, ◌<◌, ◌≤◌, Bool, true, false, cond, not, ◌&&◌, T, eqb, List, [], ◌∷◌, Some, None, Option, sym, refl, ap, ◌∙◌, subst, inl, inr, ⊎_elim, arith, eqb-true}
use borrow.Author.Tests.{eqb-false}
use Rattle.std.proofs.lemmas.Bool.{cases_lt, or_cases, or_parts, eq-eqb}
use Rattle.octets.specs.Tests.{same}
use Rattle.octets.proofs.Passes.{same_out, same_refl, T_true, true_T}
use Rattle.amount.specs.Kinds.{Kind}
use Rattle.digest.specs.Hashes.{Hash}
use Rattle.sheet.specs.Layout.{Sheet}
use Rattle.file.specs.Layout.{File}
use Rattle.audit.specs.Audits.{Texts, place_at, text_at, through, two_at, or_lower, clash_from}
use Rattle.audit.specs.Promise.{Among}

-- The first place from a height down at which one of the files has another text than f: its text, and that of f.
pub record Clash (k : Kind) (h : Hash) (s : Sheet) (fs : List File) (f : File) (top : ℕ) (t : Texts) : Type 0 where
  pub other : File
  pub among : Among other fs
  pub height : ℕ
  pub within : height ≤ top
  pub meet : place_at k h s other height ≡ place_at k h s f height
  pub stored_is : t.stored ≡ text_at k h s other height
  pub offered_is : t.offered ≡ text_at k h s f height
  pub differ : t.stored ≡ t.offered → ⊥
  pub first : (g : File) → Among g fs → (j : ℕ) → height < j → j ≤ top → place_at k h s g j ≡ place_at k h s f j → text_at k h s g j ≡ text_at k h s f j

none_some : {X : Type 0} (o : Option X) (x : X) → o ≡ None → o ≡ Some x → ⊥
none_some o x p q = let z : ◌≡◌ {A = ℕ} 0 1 = cc in omega arith

some_same : {X : Type 0} (x y : X) → ◌≡◌ {A = Option X} (Some x) (Some y) → x ≡ y
some_same x y e = cc

module _ (k : Kind) (h : Hash) (s : Sheet) where
  -- one file at one height
  abbrev differs : File → File → ℕ → Bool
  differs g f j = eqb (place_at k h s g j) (place_at k h s f j) && not (same (text_at k h s g j) (text_at k h s f j))

  differs_out : (x y : ℕ) (t u : List ℕ) → eqb x y && not (same t u) ≡ true → (x ≡ y) × (t ≡ u → ⊥)
  differs_out x y t u e = which (eqb x y) (same t u) refl refl e
    where
      which : (a b : Bool) → eqb x y ≡ a → same t u ≡ b → a && not b ≡ true → (x ≡ y) × (t ≡ u → ⊥)
      which true true p q r = absurd (let z : ◌≡◌ {A = ℕ} 0 1 = cc in omega arith)
      which true false p q r = (eqb-true x y p, λ i. let b = true_T (same t u) (subst (λ v. T (same t v)) i (same_refl t)) in let z : ◌≡◌ {A = ℕ} 0 1 = cc in omega arith)
      which false b p q r = absurd (let z : ◌≡◌ {A = ℕ} 0 1 = cc in omega arith)

  agrees_out : (x y : ℕ) (t u : List ℕ) → eqb x y && not (same t u) ≡ false → x ≡ y → t ≡ u
  agrees_out x y t u e i = which (same t u) refl (ap (λ b. b && not (same t u)) (sym (eq-eqb x y i)) ∙ e)
    where
      which : (b : Bool) → same t u ≡ b → true && not b ≡ false → t ≡ u
      which true q r = same_out t u (T_true (same t u) q)
      which false q r = absurd (let z : ◌≡◌ {A = ℕ} 0 1 = cc in omega arith)

  two_none : (fs : List File) (f : File) (j : ℕ) → two_at k h s fs f j ≡ None → (g : File) → Among g fs → place_at k h s g j ≡ place_at k h s f j → text_at k h s g j ≡ text_at k h s f j
  two_none [] f j e g m q = absurd m
  two_none (x ∷ fs) f j e g m q = which (λ r n. two_none fs f j r g n q) (differs x f j) refl e
    where
      which : (two_at k h s fs f j ≡ None → Among g fs → text_at k h s g j ≡ text_at k h s f j) → (b : Bool) → differs x f j ≡ b → cond b (Some (record { stored = text_at k h s x j; offered = text_at k h s f j })) (two_at k h s fs f j) ≡ None → text_at k h s g j ≡ text_at k h s f j
      which rest true p r = absurd (let z : ◌≡◌ {A = ℕ} 0 1 = cc in omega arith)
      which rest false p r =
          ⊎_elim (λ i. ap (λ y. text_at k h s y j) i ∙ agrees_out (place_at k h s x j) (place_at k h s f j) (text_at k h s x j) (text_at k h s f j) p (ap (λ y. place_at k h s y j) (sym i) ∙ q))
          (rest r) m

  abbrev Two : List File → File → ℕ → Texts → Type 0
  Two fs f j t =
      (g : File) × Among g fs × (place_at k h s g j ≡ place_at k h s f j) × (t.stored ≡ text_at k h s g j) × (t.offered ≡ text_at k h s f j) × (t.stored ≡ t.offered → ⊥)

  two_some : (fs : List File) (f : File) (j : ℕ) (t : Texts) → two_at k h s fs f j ≡ Some t → Two fs f j t
  two_some [] f j t e = absurd (none_some None t refl e)
  two_some (x ∷ fs) f j t e = which (two_some fs f j t) (differs x f j) refl e
    where
      which : (two_at k h s fs f j ≡ Some t → Two fs f j t) → (b : Bool) → differs x f j ≡ b → cond b (Some (record { stored = text_at k h s x j; offered = text_at k h s f j })) (two_at k h s fs f j) ≡ Some t → Two (x ∷ fs) f j t
      which rest true p r =
          let d = differs_out (place_at k h s x j) (place_at k h s f j) (text_at k h s x j) (text_at k h s f j) p in
          let i = some_same (record { stored = text_at k h s x j; offered = text_at k h s f j }) t r in
          subst (Two (x ∷ fs) f j) i (x, inl refl, d.0, refl, refl, d.1)
      which rest false p r = let y = rest r in (y.0, inr y.1, y.2, y.3, y.4, y.5)

  -- nothing found: all texts are the same
  pub none_from : (fs : List File) (f : File) (top : ℕ) → clash_from k h s fs f top ≡ None → (g : File) → Among g fs → (j : ℕ) → j ≤ top → place_at k h s g j ≡ place_at k h s f j → text_at k h s g j ≡ text_at k h s f j
  none_from fs f zero e g m j l q = subst (λ i. place_at k h s g i ≡ place_at k h s f i → text_at k h s g i ≡ text_at k h s f i) (let z : 0 ≡ j = omega arith in z) (two_none fs f 0 e g m) q
  none_from fs f (suc top) e g m j l q = which (λ r b. none_from fs f top r g m j b q) (two_at k h s fs f (suc top)) refl e
    where
      which : (clash_from k h s fs f top ≡ None → j ≤ top → text_at k h s g j ≡ text_at k h s f j) → (o : Option Texts) → two_at k h s fs f (suc top) ≡ o → or_lower k h s o (clash_from k h s fs f top) ≡ None → text_at k h s g j ≡ text_at k h s f j
      which rest (Some t) p r = absurd (none_some (Some t) t r refl)
      which rest None p r =
          ⊎_elim (λ (b : j < suc top). rest r (omega arith))
          (λ (b : suc top ≤ j). subst (λ i. place_at k h s g i ≡ place_at k h s f i → text_at k h s g i ≡ text_at k h s f i) (let z : suc top ≡ j = omega arith in z) (two_none fs f (suc top) p g m) q)
          (cases_lt j (suc top))

  -- found: the first such place
  pub some_from : (fs : List File) (f : File) (top : ℕ) (t : Texts) → clash_from k h s fs f top ≡ Some t → Clash k h s fs f top t
  some_from fs f zero t e =
      let y = two_some fs f 0 t e in
      record {
        other = y.0;
        among = y.1;
        height = 0;
        within = omega arith;
        meet = y.2;
        stored_is = y.3;
        offered_is = y.4;
        differ = y.5;
        first = λ g m j a l q. absurd (omega arith);
      }
  some_from fs f (suc top) t e = which (some_from fs f top t) (two_at k h s fs f (suc top)) refl e
    where
      which : (clash_from k h s fs f top ≡ Some t → Clash k h s fs f top t) → (o : Option Texts) → two_at k h s fs f (suc top) ≡ o → or_lower k h s o (clash_from k h s fs f top) ≡ Some t → Clash k h s fs f (suc top) t
      which rest (Some u) p r =
          let y = two_some fs f (suc top) t (p ∙ r) in
          record {
            other = y.0;
            among = y.1;
            height = suc top;
            within = omega arith;
            meet = y.2;
            stored_is = y.3;
            offered_is = y.4;
            differ = y.5;
            first = λ g m j a l q. absurd (omega arith);
          }
      which rest None p r =
          let y = rest r in
          record {
            other = y.other;
            among = y.among;
            height = y.height;
            within = (let w = y.within in omega arith);
            meet = y.meet;
            stored_is = y.stored_is;
            offered_is = y.offered_is;
            differ = y.differ;
            first = λ g m j a l q.
                ⊎_elim (λ (b : j < suc top). y.first g m j a (omega arith) q)
                (λ (b : suc top ≤ j). subst (λ i. place_at k h s g i ≡ place_at k h s f i → text_at k h s g i ≡ text_at k h s f i) (let z : suc top ≡ j = omega arith in z) (two_none fs f (suc top) p g m) q)
                (cases_lt j (suc top));
          }

  -- whether a path goes through a place
  pub through_out : (fs : List File) (f : File) (j : ℕ) → through k h s fs f j ≡ true → (g : File) × Among g fs × (place_at k h s g j ≡ place_at k h s f j)
  through_out [] f j e = absurd (let z : ◌≡◌ {A = ℕ} 0 1 = cc in omega arith)
  through_out (x ∷ fs) f j e =
      ⊎_elim (λ a. (x, inl refl, eqb-true (place_at k h s x j) (place_at k h s f j) a)) (λ b. let y = through_out fs f j b in (y.0, inr y.1, y.2))
      (or_cases (eqb (place_at k h s x j) (place_at k h s f j)) (through k h s fs f j) e)

  pub not_through : (fs : List File) (f : File) (j : ℕ) → through k h s fs f j ≡ false → (g : File) → Among g fs → place_at k h s g j ≡ place_at k h s f j → ⊥
  not_through [] f j e g m q = m
  not_through (x ∷ fs) f j e g m q =
      let p = or_parts (eqb (place_at k h s x j) (place_at k h s f j)) (through k h s fs f j) e in
      ⊎_elim (λ i. eqb-false (place_at k h s x j) (place_at k h s f j) p.0 (ap (λ y. place_at k h s y j) (sym i) ∙ q)) (λ n. not_through fs f j p.1 g n q) m
