-- How many keys are written.
use Rattle.std.specs.Prelude.{ℕ, zero, suc, ◌+◌, ◌-◌, Bool, cond, not, is_some}
use Rattle.store.specs.Meaning.{Meaning}

-- how many k below n pass
abbrev pub tally : (ℕ → Bool) → ℕ → ℕ
tally f zero = 0
tally f (suc n) = tally f n + cond (f n) 1 0

-- how many places of closing c are written, of 1 to bound - 1
abbrev pub held : Meaning → ℕ → ℕ
held m c = tally (λ k. is_some (m.find c (k + 1))) (m.bound - 1)

-- how many places of closing c are not written, of 1 to n
abbrev pub missing : Meaning → ℕ → ℕ → ℕ
missing m c n = tally (λ k. not (is_some (m.find c (k + 1)))) n

-- f 0 + .. + f (n - 1)
abbrev pub sum_to : (ℕ → ℕ) → ℕ → ℕ
sum_to f zero = 0
sum_to f (suc n) = sum_to f n + f n

-- how many keys are written in all
abbrev pub held_all : Meaning → ℕ
held_all m = sum_to (λ k. held m (m.first + k)) (m.last + 1 - m.first)
