-- What a measuring that accepts says.
use Rattle.std.proofs.Common.{◌≡◌, ℕ, ◌≤◌, Bool, true, false, cond, not, ◌&&◌, leb, Some, None, refl, arith}
use Rattle.std.proofs.lemmas.Bool.{and_parts, leb-true}
use Rattle.refusal.specs.declared.cases.Refusal.TheVariants.{MemoryUnfit}
use Rattle.store.specs.Meaning.{valid_limits}
use Rattle.store.proofs.Inside.{Valid, valid_out}
use Rattle.chained_theory.specs.Layout.{chained_bytes, chained_refusal}

accepted : (a : Bool) → cond (not a) (Some MemoryUnfit) None ≡ None → a ≡ true
accepted true e = refl
accepted false e = let z : ◌≡◌ {A = ℕ} 0 1 = cc in let q : ⊥ = omega arith in absurd q

pub chained_fits : (w f l b n m : ℕ) → chained_refusal w f l b n m ≡ None → Valid w f l b × (1 ≤ n) × (n ≤ 4194304) × (chained_bytes w n ≤ m)
chained_fits w f l b n m e =
    let t = accepted (valid_limits w f l b && (leb 1 n && (leb n 4194304 && leb (chained_bytes w n) m))) e in
    let x = and_parts (valid_limits w f l b) _ t in
    let y = and_parts (leb 1 n) _ x.1 in
    let z = and_parts (leb n 4194304) (leb (chained_bytes w n) m) y.1 in
    (valid_out w f l b x.0, leb-true 1 n y.0, leb-true n 4194304 z.0, leb-true (chained_bytes w n) m z.1)
