-- The place beside a leaf's path: which side it is on, and how large it is.
use Rattle.std.proofs.Common.{◌≡◌, ℕ, ◌+◌, ◌-◌, ◌/◌, ◌^◌, ◌<◌, ◌≤◌, cond, sym, ap, ◌∙◌, arith, pow_mono}
use lib.Bits.{bit_and, and_mask}
use Rattle.std.proofs.lemmas.Bool.{eq-eqb, ne_eqb}
use Rattle.tree.specs.Trees.{place}
use Rattle.file.specs.Ledgers.{beside}
use Rattle.closing.proofs.Fitting.{place_inside}
use Rattle.closing.proofs.Issuing.{step_low}

pub beside_left : (m : ℕ) → bit_and m 1 ≡ 0 → beside m ≡ m + 1
beside_left m e = ap (λ b. cond b (m + 1) (m - 1)) (eq-eqb _ 0 (sym (and_mask m 1) ∙ e))

pub beside_right : (m : ℕ) → (bit_and m 1 ≡ 0 → ⊥) → beside m ≡ m - 1
beside_right m ne = ap (λ b. cond b (m + 1) (m - 1)) (ne_eqb _ 0 (λ e. ne (and_mask m 1 ∙ e)))

pub step_small : (depth leaf j : ℕ) → depth ≤ 20 → leaf < 2 ^ depth → j < depth → place depth j (beside (leaf / 2 ^ j)) < 2 ^ 21
step_small depth leaf j d l g =
    let at = place_inside depth j (beside (leaf / 2 ^ j)) (omega arith) (step_low depth leaf j l g) in
    let m : 2 ^ (depth + 1) ≤ 2 ^ 21 = pow_mono {i = depth + 1} {j = 21} (omega arith) in
    omega (arith, at.1, m)
