use Rattle.std.proofs.Common.{◌≡◌, ◌+◌, ◌-◌, ◌≤◌, ◌++◌, length, take, drop, sym, ap, ◌∙◌, arith, length-append, length-take, rules}
use borrow.Rule.Slice.PartMut.{post_of}
use Rattle.refusal.specs.Tables.{written}
use Rattle.refusal.proofs.Buffers.{written_all}
use Rattle.node.specs.Texts.{node_bytes}
use Rattle.node.specs.Meant.{node_of}
use Rattle.node.proofs.NodeBytes.{two_parts}
use Rattle.sheet.specs.Layout.{head}
use Rattle.sheet.specs.Meant.{sheet_of}
use Rattle.sheet.proofs.Back.{reads_back}
use Rattle.sheet.proofs.write.Goals as goal

pub returns : goal.returns
returns g c =
    let a = g.A.Amount in
    let s = c.args.sheet.now in
    let out = c.args.out.now in
    let f = c.copy_from_slice.new.self in
    let w = c.width-end.result in
    let b = node_bytes a.kind (node_of a.meaning s.root) in
    let hd = head a.kind (g.D.Digest.hash c.args.digest.now) s.closing.0 s.depth in
    let e : f ≡ hd = c.copy_from_slice.ensures.after ∙ c.head.ensures in
    let lb : length b ≡ 32 + w = sym c.in-Ok.ensures.answers.1.1 ∙ c.in-Ok.ensures.answers.1.0 ∙ ap (λ x. 32 + x) (sym c.width-end.ensures) in
    let part = take (39 + w - 7) (drop 7 (f ++ post_of 0 7 out)) in
    let lo : length part ≤ length b = simp length-take (omega arith) in
    let n : c.write_node.new.out ≡ b = c.in-Ok.ensures.answers.1.2 ∙ written_all b part lo in
    let k : 39 + w - 7 ≡ length c.write_node.new.out = omega (arith, ap length n) in
    let p = two_parts out f c.write_node.new.out 7 (39 + w - 7) (ap length e) k
    ∙ ap (λ x. written (x ++ c.write_node.new.out) out) e ∙ ap (λ x. written (hd ++ x) out) n in
    let laws = g.met.A.Amount.lawful in
    let wide = laws.bytes_width (a.meaning s.root.amount) (g.met.A.Amount.sound s.root.amount) in
    let ld : length s.root.digest ≡ 32 = omega (arith, length-append s.root.digest (a.kind.bytes (a.meaning s.root.amount)), lb, wide, c.width-end.ensures) in
    record {
      answers = (search rules, (ap (λ x. 39 + x) c.width-end.ensures, p, λ good. reads_back a.kind laws (g.D.Digest.hash c.args.digest.now) (sheet_of a.meaning s) ld (g.met.A.Amount.sound s.root.amount) good));
      refused = λ h. absurd (omega (arith, c.width-end.ensures));
    }
