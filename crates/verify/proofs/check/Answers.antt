use Rattle.std.proofs.Common.{◌≡◌, Some, ap, arith}
use Rattle.refusal.proofs.Exits.{handed_on}
use Rattle.sheet.specs.Layout.{read_sheet}
use Rattle.sheet.specs.Meant.{sheet_of}
use Rattle.verify.specs.Checks.{or_else, under, check_refusal}
use Rattle.verify.proofs.Whole.{checked}
use Rattle.verify.proofs.Passing.{answered}
use Rattle.verify.proofs.check.Goals as goal

pub returns : goal.returns
returns g c =
    let k = g.A.Amount.kind in
    let laws = g.met.A.Amount.lawful in
    let h = g.D.Digest.hash c.args.digest.now in
    let hashes = g.met.D.Digest.lawful c.args.digest.now in
    let e = c.in_ok-read.ensures in
    let all =
    checked (λ p. p.0) k laws h hashes c.args.sheet.now c.args.file.now
    (sheet_of g.A.Amount.meaning c.in_ok-read.read) c.check_file.result (λ i. omega (arith, c.type_inv.file i)) e.0 e.1.0 c.check_file.ensures in
    record {
      answers = all;
      own = answered (λ p. p.0) k laws h hashes c.args.sheet.now c.args.file.now c.check_file.result all;
    }

pub returns-in_err-read : goal.returns-in_err-read
returns-in_err-read g c =
    let k = g.A.Amount.kind in
    let laws = g.met.A.Amount.lawful in
    let h = g.D.Digest.hash c.args.digest.now in
    let hashes = g.met.D.Digest.lawful c.args.digest.now in
    let e = c.in_err-read.field-0.0 in
    let why : check_refusal k h c.args.sheet.now c.args.file.now ≡ Some e =
    ap (λ o. or_else o (under k h (read_sheet k h c.args.sheet.now) c.args.file.now)) c.in_err-read.ensures in
    let all = handed_on c.from_residual.result _ _ e c.from_residual.ensures.1 why in
    record {
      answers = all;
      own = answered (λ p. p.0) k laws h hashes c.args.sheet.now c.args.file.now c.from_residual.result all;
    }
