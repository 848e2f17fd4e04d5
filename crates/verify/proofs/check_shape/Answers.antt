use Rattle.std.proofs.Common.{◌≡◌, ◌+◌, ◌*◌, true, length, take, drop, sym, ap, ◌∙◌, arith}
use Rattle.octets.specs.BigEndian.{value}
use Rattle.octets.specs.Tests.{same}
use Rattle.file.specs.Layout.{file_length}
use Rattle.sheet.specs.Meant.{sheet_of}
use Rattle.verify.proofs.Shapes.{behind, at_leaf, at_end}
use Rattle.verify.proofs.check_shape.Goals as goal

pub returns-then-leaf_number-leaf_count : goal.returns-then-leaf_number-leaf_count
returns-then-leaf_number-leaf_count g c =
    let k = g.A.Amount.kind in
    let s = sheet_of g.A.Amount.meaning c.args.sheet.now in
    let file = c.args.file.now in
    let headed : true ≡ same (take 7 file) c.head-head.result = c.if-not-same_bytes.ensures in
    at_leaf k (g.D.Digest.hash c.args.digest.now) s file (c.if-file-width.false ∙ ap (λ w. 43 + w + s.depth * (32 + w)) c.width-width.ensures)
    (ap (same (take 7 file)) (sym c.head-head.ensures) ∙ sym headed)
    c.in-Some.leaf_number c.leaf_count.result (c.in-Some.ensures ∙ ap (λ x. value (take 4 x)) (behind file)) (c.leaf_count.ensures.leaves c.requires) c.if-leaf_number-leaf_count.true

pub returns : goal.returns
returns g c =
    let k = g.A.Amount.kind in
    let s = sheet_of g.A.Amount.meaning c.args.sheet.now in
    let file = c.args.file.now in
    let long : length file ≡ file_length k.width s.depth = c.if-file-width.false ∙ ap (λ w. 43 + w + s.depth * (32 + w)) c.width-width.ensures in
    let number : c.in-Some.leaf_number ≡ value (take 4 (drop 7 file)) = c.in-Some.ensures ∙ ap (λ x. value (take 4 x)) (behind file) in
    let leaves = c.leaf_count.ensures.leaves c.requires in
    let headed : true ≡ same (take 7 file) c.head-head.result = c.if-not-same_bytes.ensures in (
      at_end k (g.D.Digest.hash c.args.digest.now) s file long
          (ap (same (take 7 file)) (sym c.head-head.ensures) ∙ sym headed)
          c.in-Some.leaf_number c.leaf_count.result number leaves c.if-leaf_number-leaf_count.false,
      (number, long, omega (arith, leaves, c.if-leaf_number-leaf_count.false)),
    )
