use Rattle.std.proofs.Common.{◌≡◌, ℕ, ◌+◌, ◌*◌, ◌<◌, get_or}
use Rattle.flat.proofs.clear_marks.Given as goal

abbrev pub invariant-loop-i : goal.invariant-loop-i
invariant-loop-i l =
    ((k : ℕ) → k < l.i → get_or l.memory (l.base + k * l.step) 0 ≡ 0)
    × ((j : ℕ) → ((k : ℕ) → k < l.i → j ≡ l.base + k * l.step → ⊥) → get_or l.memory j 0 ≡ get_or l.initial.memory j 0)
