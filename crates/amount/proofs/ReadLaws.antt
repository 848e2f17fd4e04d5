-- What reading answers, in the form of the contract.
use Rattle.std.proofs.Common.{◌≡◌, ℕ, false, cond, not, T, List, [], ◌∷◌, is_some, Some, None, Option, sym, refl, ap, ◌∙◌}
use Rattle.refusal.specs.declared.cases.Refusal.TheVariants.{BadAmount}
use Rattle.refusal.specs.Tables.{◌⇒◌, first}
use Rattle.amount.specs.Kinds.{Kind, Laws}

nothing : (o : Option (List ℕ)) → ((m : List ℕ) → o ≡ Some m → ⊥) → is_some o ≡ false
nothing None h = refl
nothing (Some m) h = absurd (h m refl)

module _ (k : Kind) (laws : Laws k) (s : List ℕ) where
  -- refused where no amount has these bytes
  pub reads_none : ((m : List ℕ) → T (k.writable m) → k.bytes m ≡ s → ⊥) → first ((not (is_some (k.read s)) ⇒ BadAmount 0) ∷ []) ≡ Some (BadAmount 0)
  reads_none h =
      ap (λ b. cond (not b) (Some (BadAmount 0)) None)
      (nothing (k.read s) (λ m e. let p = laws.read_only s m e in h m p.0 p.1))

  -- and answered where one has
  pub reads_one : (m : List ℕ) → T (k.writable m) → k.bytes m ≡ s → (first ((not (is_some (k.read s)) ⇒ BadAmount 0) ∷ []) ≡ None) × (k.read s ≡ Some m)
  reads_one m w e =
      let r : k.read s ≡ Some m = ap k.read (sym e) ∙ laws.read_bytes m w in
      (ap (λ o. cond (not (is_some o)) (Some (BadAmount 0)) None) r, r)
