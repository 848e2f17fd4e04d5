use Rattle.std.proofs.Common.{◌≡◌, ℕ, ◌+◌, Bool, cond, is_some, vec_items, sym, ap, ◌∙◌, arith}
use Rattle.store.proofs.Inside.{key_in, span_out}
use Rattle.store.proofs.Tallies.{bit_byte, bit_le, tally_more}
use Rattle.flat.specs.Meaning.{flat_meaning}
use Rattle.flat_theory.specs.Layout.{slot_at}
use Rattle.flat_theory.proofs.Finds.{flat_find_inside}
use Rattle.flat.proofs.types.Flat.count.Goals as goal

pub slot-at-requires : goal.slot-at-requires
slot-at-requires c =
    let n = c.args.self.now.extent.limits in
    let i = span_out n.first n.last c.args.closing.0 c.requires in
    key_in n.first n.last n.bound c.args.closing.0 (c.loop-k.k + 1) i.0 i.1 (omega arith) (omega arith)

pub loop-k-preserved : goal.loop-k-preserved
loop-k-preserved c =
    let s = c.args.self.now in
    let n = s.extent.limits in
    let k = c.loop-k.k in
    let a = c.args.closing.0 in
    let m = vec_items s.memory in
    let f : ℕ → Bool = λ q. is_some ((flat_meaning s).find a (q + 1)) in
    let i = span_out n.first n.last a c.requires in
    let t = key_in n.first n.last n.bound a (k + 1) i.0 i.1 (omega arith) (omega arith) in
    let same : c.is_written.result ≡ f k = c.is_written.ensures ∙ ap (λ j. is_some (slot_at m n.width j)) c.slot-at.ensures.is ∙ ap is_some (sym (flat_find_inside m n.width n.first n.last n.bound a (k + 1) t)) in
    let bit : c.from-written.result ≡ cond {A = ℕ} (f k) 1 0 = c.from-written.ensures ∙ bit_byte c.is_written.result ∙ ap (λ b. cond {A = ℕ} b 1 0) same in
    record {
      few = omega (arith, bit, bit_le (f k), c.loop-k.invariant.few);
      counted = omega (arith, bit, tally_more f k, c.loop-k.invariant.counted);
    }
