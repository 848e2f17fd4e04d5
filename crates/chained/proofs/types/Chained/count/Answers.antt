use Rattle.std.proofs.Common.{◌≡◌, ℕ, ◌+◌, Bool, cond, eqb, vec_items, sym, ap, ◌∙◌, arith}
use mathlib.Core.Logic.{∥∥₁_elim}
use native.Mathlib.Nat.{ℕ_set}
use Rattle.store.proofs.Inside.{span_out}
use Rattle.store.proofs.Tallies.{bit_byte, bit_le, tally_more}
use Rattle.chained_theory.specs.Layout.{closing_at, count_of}
use Rattle.chained_theory.proofs.Clears.{held_count}
use Rattle.chained.specs.declared.types.Chained.{Chained}
use Rattle.chained.proofs.types.Chained.count.Goals as goal

pub loop-k-preserved : goal.loop-k-preserved
loop-k-preserved c =
    let s = c.args.self.now in
    let w = s.extent.limits.width in
    let m = vec_items s.memory in
    let k = c.loop-k.k in
    let a = c.args.closing.0 in
    let r = c.new.result in
    let f : ℕ → Bool = λ q. eqb (closing_at m w (q + 1)) a in
    let is : c.closing.result.0 ≡ closing_at m w (k + 1) = c.closing.ensures ∙ ap (λ (z : Chained). closing_at (vec_items z.memory) z.extent.limits.width r.number) c.new.ensures.store ∙ ap (closing_at m w) c.new.ensures.number in
    let bit : c.from-held.result ≡ cond {A = ℕ} (f k) 1 0 = c.from-held.ensures ∙ bit_byte (eqb c.closing.result.0 a) ∙ ap (λ z. cond {A = ℕ} (eqb z a) 1 0) is in
    record {
      few = omega (arith, bit, bit_le (f k), c.loop-k.invariant.few);
      counted = omega (arith, bit, tally_more f k, c.loop-k.invariant.counted);
    }

pub returns : goal.returns
returns c =
    let s = c.args.self.now in
    let n = s.extent.limits in
    let m = vec_items s.memory in
    let a = c.args.closing.0 in
    let i = span_out n.first n.last a c.requires in
    let e : c.loop-k.k ≡ s.count = omega arith in
    ∥∥₁_elim (s.linked (s.alive (omega arith))) (ℕ_set _ _) (λ k.
    c.loop-k.invariant.counted ∙ ap (λ z. count_of m n.width z a) e ∙ sym (held_count m n.width s.count n.first n.last n.bound s.room a k.keys (omega arith) k.laid i))
