use Rattle.std.proofs.Common.{◌≡◌, ◌+◌, ◌*◌, ◌%◌, ◌^◌, ◌≤◌, leb, sym, ap, ◌∙◌, mod-eq_of_lt, arith, pow_mono, pow-add}
use Rattle.std.proofs.lemmas.Bool.{lt-leb}
use Rattle.client.proofs.holds_places.Goals as goal

pub returns-then-depth-le20 : goal.returns-then-depth-le20
returns-then-depth-le20 c =
    let d = c.args.depth in
    let low : 2 ^ d ≤ 2 ^ 20 = pow_mono {i = d} {j = 20} (omega arith) in
    let whole : 2 * 2 ^ d % 4294967296 ≡ 2 * 2 ^ d = mod-eq_of_lt (omega arith) in
    let twice : 2 * 2 ^ d ≡ 2 ^ (d + 1) = omega (arith, pow-add 2 d 1) in
    ap (λ n. leb n c.args.bound) (whole ∙ twice)

pub returns-else-depth-le20 : goal.returns-else-depth-le20
returns-else-depth-le20 c =
    let d = c.args.depth in
    let high : 2 ^ 22 ≤ 2 ^ (d + 1) = pow_mono {i = 22} {j = d + 1} (omega arith) in
    lt-leb d 20 (omega arith) ∙ sym (lt-leb (2 ^ (d + 1)) c.args.bound (omega (arith, c.requires)))
