use Rattle.std.proofs.Common.{◌≡◌, ℕ, ◌+◌, ◌-◌, ◌*◌, ◌<◌, List, ◌++◌, length, get_or, take, drop, ap, ◌∙◌, arith, rules, length-take-le}
use Rattle.std.specs.Prelude.{replicate}
use Rattle.std.proofs.lemmas.List.{get_or-replicate, get_or_append_left, get_or-append_right, get_or-drop, length-replicate}
use Rattle.chained_theory.specs.Layout.{head_at}
use Rattle.chained.proofs.zero_heads.Goals as goal

-- the first n bytes are 0
zero : (xs more : List ℕ) (n k : ℕ) → xs ≡ replicate n 0 → k < n → get_or (xs ++ more) k 0 ≡ 0
zero xs more n k e h =
    let long : length (replicate {A = ℕ} n 0) ≡ n = length-replicate n 0 in
    ap (λ ys. get_or (ys ++ more) k 0) e ∙ get_or_append_left (replicate n 0) more 0 k (omega arith) ∙ get_or-replicate n k 0 0 h

pub returns-clause-zero : goal.returns-clause-zero
unfolding head_at
returns-clause-zero c = λ j h.
    let m = c.args.memory.now in
    let xs : List ℕ = c.fill.new.self in
    let n : length (take 68 m) ≡ 68 = length-take-le 68 m c.requires in
    let z : (k : ℕ) → k < 68 → get_or (xs ++ drop 68 m) k 0 ≡ 0 = λ k b. zero xs (drop 68 m) (length (take 68 m)) k (c.fill.ensures.after (λ y q. search rules)) (omega arith) in
    omega (arith, z (4 * j) (omega arith), z (4 * j + 1) (omega arith), z (4 * j + 2) (omega arith), z (4 * j + 3) (omega arith))

pub returns-clause-rest : goal.returns-clause-rest
returns-clause-rest c = λ k h.
    let m = c.args.memory.now in
    let l : length c.fill.new.self ≡ 68 = c.fill.ensures.len ∙ length-take-le 68 m c.requires in
    get_or-append_right c.fill.new.self (drop 68 m) 68 k 0 l h ∙ get_or-drop 68 m (k - 68) 0 ∙ ap (λ i. get_or m i 0) (omega arith)
