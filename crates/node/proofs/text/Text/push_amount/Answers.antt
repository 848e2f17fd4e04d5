use Rattle.std.proofs.Common.{◌≡◌, ◌+◌, ◌-◌, ◌≤◌, ◌++◌, length, take, drop, sym, ap, ◌∙◌, arith, length-take, rules}
use Rattle.std.proofs.lemmas.Slice.{take-put_mid}
use Rattle.refusal.proofs.Buffers.{written_all}
use Rattle.node.proofs.text.Text.push_amount.Goals as goal

pub returns : goal.returns
returns g c =
    let a = g.A.Amount in
    let t = c.self.inside in
    let w = c.width.result in
    let m = a.meaning c.args.amount in
    let b = a.kind.bytes m in
    let o = take (t.len + w - t.len) (drop t.len t.bytes) in
    let lb : length b ≡ w = g.met.A.Amount.lawful.bytes_width m (g.met.A.Amount.sound c.args.amount) ∙ sym c.width.ensures in
    let lo : length o ≤ length b = simp length-take (omega arith) in
    let e : c.write.new.out ≡ b = c.in-Ok.ensures.answers.1.1 ∙ written_all b o lo in
    let h : t.len ≤ length t.bytes = search rules in
    take-put_mid t.len (t.len + w - t.len) t.bytes c.write.new.out (t.len + w) (ap (λ x. t.len + x) (sym (ap length e ∙ lb))) h
    ∙ ap (λ x. take t.len t.bytes ++ x) e ∙ ap (λ x. x ++ b) c.self.view_is
