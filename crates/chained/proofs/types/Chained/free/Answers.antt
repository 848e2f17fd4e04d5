use Rattle.std.proofs.Common.{◌≡◌, ap, ◌∙◌, vec_items, arith}
use mathlib.Core.Logic.{∥∥₁_elim}
use mathlib.Core.HLevel.{×_prop}
use native.Mathlib.Bridge.{le_prop}
use Rattle.memory.specs.Four.{be4}
use Rattle.chained_theory.specs.Layout.{head_at}
use Rattle.chained_theory.proofs.Puts.{free_record}
use Rattle.chained.proofs.types.Chained.free.Goals as goal

pub returns-clause-within : goal.returns-clause-within
unfolding head_at
returns-clause-within c =
    let s = c.args.self.now in
    let n = s.extent.limits in
    let e : c.read4.result ≡ head_at (vec_items s.memory) 0 = c.read4.ensures ∙ ap (λ xs. be4 xs 0) c.deref.ensures.value in
    ∥∥₁_elim (s.linked (omega arith)) (×_prop le_prop le_prop) (λ k.
    let x = free_record (vec_items s.memory) n.width s.count n.first n.last n.bound s.room k c.requires in
    (omega (arith, x, e), omega (arith, x, e)))
