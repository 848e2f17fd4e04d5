use Rattle.std.proofs.Common.{◌≡◌, arith, length, length-append, rules}
use Rattle.node.proofs.leaf_text.Goals as goal

pub returns-clause-len : goal.returns-clause-len
returns-clause-len g c =
    let l = c.args.line.now in
    let w = g.met.A.Amount.lawful.bytes_width (g.A.Amount.meaning l.balance) (g.met.A.Amount.sound l.balance) in
    let p : length l.customer ≡ 16 = search rules in
    let q : length l.salt ≡ 16 = search rules in
    simp (c.push_amount.ensures, c.push-3.ensures, c.push-2.ensures, c.push.ensures, c.of_byte-text.ensures, c.be_bytes.ensures, length-append) (omega arith)
