use Rattle.std.proofs.Common.{◌+◌, ◌-◌, length, take, drop, sym, ap, ◌∙◌, arith}
use Rattle.octets.specs.BigEndian.{value}
use Rattle.node.specs.Meant.{node_of}
use Rattle.sheet.proofs.Rows.{behind_3, behind_7, at_limits, at_amount, at_sheet}
use Rattle.sheet.proofs.read.Goals as goal

pub returns-then-bad_limits : goal.returns-then-bad_limits
returns-then-bad_limits g c =
    let s = c.args.bytes.now in
    at_limits g.A.Amount.kind (g.D.Digest.hash c.args.digest.now) s (c.if-bytes-width.false ∙ ap (λ w. 39 + w) c.width.ensures) (sym c.if-other_kinds.ensures)
    c.in-Some.number (c.in-Some.ensures ∙ ap (λ x. value (take 4 x)) (behind_3 s)) (sym c.if-bad_limits.ensures)

pub returns-in-Ok : goal.returns-in-Ok
returns-in-Ok g c =
    let s = c.args.bytes.now in
    let r = take (length s - 3) (drop 3 s) in
    at_sheet g.A.Amount.kind (g.D.Digest.hash c.args.digest.now) s (c.if-bytes-width.false ∙ ap (λ w. 39 + w) c.width.ensures) (sym c.if-other_kinds.ensures)
    c.in-Some.number (c.in-Some.ensures ∙ ap (λ x. value (take 4 x)) (behind_3 s)) (sym c.if-bad_limits.ensures)
    g.met.A.Amount.lawful (λ i. omega (arith, c.type_inv.bytes i)) (take (length r - 4) (drop 4 r)) (node_of g.A.Amount.meaning c.in-Ok.root) (behind_7 s r (behind_3 s)) c.in-Ok.ensures.0 c.in-Ok.ensures.1

pub returns-in-Err : goal.returns-in-Err
returns-in-Err g c =
    let s = c.args.bytes.now in
    let r = take (length s - 3) (drop 3 s) in
    at_amount g.A.Amount.kind (g.D.Digest.hash c.args.digest.now) s (c.if-bytes-width.false ∙ ap (λ w. 39 + w) c.width.ensures) (sym c.if-other_kinds.ensures)
    c.in-Some.number (c.in-Some.ensures ∙ ap (λ x. value (take 4 x)) (behind_3 s)) (sym c.if-bad_limits.ensures)
    (take (length r - 4) (drop 4 r)) c.in-Err.field-0 (behind_7 s r (behind_3 s)) c.in-Err.ensures
