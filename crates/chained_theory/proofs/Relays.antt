-- The chains laid out anew, record by record.
use Rattle.std.proofs.Common.{◌≡◌, ℕ, suc, ◌+◌, ◌<◌, ◌≤◌, Bool, List, [], sym, refl, ap, ◌∙◌, inl, inr, arith}
use Rattle.std.proofs.lemmas.Bool.{cases_eq}
use Rattle.memory.specs.Part.{part}
use Rattle.chained_theory.specs.Layout.{start_of, next_at, closing_at, place_at, head_at, without}
use Rattle.chained_theory.specs.Links.{Laid, Fronted, Forgot}
use Rattle.chained_theory.proofs.Chains.{start_le}
use Rattle.chained_theory.proofs.Writes.{Past}

pub nothing_laid : (mem : List ℕ) (w : ℕ) → ((j : ℕ) → j < 17 → head_at mem j ≡ 0) → Laid mem w 0
nothing_laid mem w h = record { chain = λ _. []; links = h; dead = tt; apart = tt; live = λ _ _ _. tt; whole = refl; rooms = refl; scans = λ _ _ _. refl }

pub nothing_forgot : (mem : List ℕ) (w n : ℕ) (every : Bool) (c : ℕ) → Forgot mem mem w n 0 every c
nothing_forgot mem w n every c = record { done = λ y a h. (let z : ⊥ = omega arith in absurd z); left = λ _ _ _. refl; place = λ _ _ _. refl; bytes = λ _ _ _. refl }

module _ (mem m m' : List ℕ) (w n i b c : ℕ) (every : Bool) (f : Forgot mem m w n i every c) (less : i < n) (u : Fronted m m' w n (suc i) b (without every c (closing_at m w (suc i)))) where
  pub more_forgot : Forgot mem m' w n (suc i) every c
  more_forgot = record {
    done = λ y a h. elim (cases_eq y (suc i)) [
      | inl e ↦ ap (closing_at m' w) e ∙ u.closing ∙ ap (without every c) (f.left (suc i) (omega arith) (omega arith) ∙ ap (closing_at mem w) (sym e))
      | inr d ↦ (u.others y a (omega arith) d).closing ∙ f.done y a (omega arith)
    ];
    left = λ y a h. (u.others y (omega arith) h (λ e. omega arith)).closing ∙ f.left y (omega arith) h;
    place = λ y a h. elim (cases_eq y (suc i)) [ inl e ↦ ap (place_at m' w) e ∙ u.place ∙ ap (place_at m w) (sym e) | inr d ↦ (u.others y a h d).place ] ∙ f.place y a h;
    bytes = λ y a h. elim (cases_eq y (suc i)) [ inl e ↦ ap (λ z. part m' (start_of w z + 12) w) e ∙ u.bytes ∙ ap (λ z. part m (start_of w z + 12) w) (sym e) | inr d ↦ u.kept y a h d ] ∙ f.bytes y a h;
  }

  pub more_nexts : Laid m w i → b < 17 → ((y : ℕ) → 1 ≤ y → y ≤ i → next_at m w y ≤ i) → (y : ℕ) → 1 ≤ y → y ≤ suc i → next_at m' w y ≤ suc i
  more_nexts laid h old y a q = elim (cases_eq y (suc i)) [
    | inl e ↦ omega (arith, ap (next_at m' w) e, u.next, start_le m w i (head_at m b) (laid.chain b) (laid.links b h))
    | inr d ↦ omega (arith, (u.others y a (omega arith) d).next, old y a (omega arith))
  ]

pub past_forgot : (mem m m' : List ℕ) (w n i c : ℕ) (every : Bool) → Past mem m w → Forgot m m' w n i every c → Forgot mem m' w n i every c
past_forgot mem m m' w n i c every p f = record {
  done = λ y a h. f.done y a h ∙ ap (without every c) (p.closing y);
  left = λ y a h. f.left y a h ∙ p.closing y;
  place = λ y a h. f.place y a h ∙ p.place y;
  bytes = λ y a h. f.bytes y a h ∙ p.bytes y;
}

pub laid_heads : (m : List ℕ) (w n : ℕ) → Laid m w n → (j : ℕ) → j < 17 → head_at m j ≤ n
laid_heads m w n laid j h = start_le m w n (head_at m j) (laid.chain j) (laid.links j h)
