use Rattle.std.proofs.Common.{◌≡◌, ◌+◌, ◌-◌, ◌≤◌, ◌++◌, length, take, drop, sym, ap, ◌∙◌, arith, length-append, length-take, rules}
use borrow.Rule.Slice.PartMut.{post_of}
use Rattle.refusal.specs.Tables.{written}
use Rattle.refusal.proofs.Buffers.{written_all}
use Rattle.node.proofs.NodeBytes.{two_parts}
use Rattle.node.proofs.write_node.Goals as goal

pub returns : goal.returns
returns g c =
    let a = g.A.Amount in
    let out = c.args.out.now in
    let d = c.copy_from_slice.new.self in
    let w = c.width-end.result in
    let m = a.meaning c.args.node.now.amount in
    let b = a.kind.bytes m in
    let f = c.copy_from_slice.ensures.after in
    let lb : length b ≡ w = g.met.A.Amount.lawful.bytes_width m (g.met.A.Amount.sound c.args.node.now.amount) ∙ sym c.width-end.ensures in
    let part = take (32 + w - 32) (drop 32 (d ++ post_of 0 32 out)) in
    let lo : length part ≤ length b = simp length-take (omega arith) in
    let e : c.write.new.out ≡ b = c.in-Ok.ensures.answers.1.1 ∙ written_all b part lo in
    let n : length c.args.node.now.digest ≡ 32 = search rules in
    let k : 32 + w - 32 ≡ length c.write.new.out = omega (arith, ap length e) in
    let s = two_parts out d c.write.new.out 32 (32 + w - 32) (ap length f ∙ n) k
    ∙ ap (λ x. written (x ++ c.write.new.out) out) f ∙ ap (λ x. written (c.args.node.now.digest ++ x) out) e in
    record {
      answers = (search rules, (ap (λ x. 32 + x) c.width-end.ensures, simp length-append (omega arith), s));
      refused = λ h. absurd (omega (arith, c.width-end.ensures));
    }
