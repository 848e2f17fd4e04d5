use Rattle.std.proofs.Common.{◌≡◌, ◌-◌, ◌<◌, length, get_or, arith, rules}
use Rattle.sha256.specs.Sha256.{next}
use Rattle.sha256.specs.Words.{add, σ0, σ1}
use Rattle.sha256.proofs.Turns.{scheduled_more}
use Rattle.sha256.proofs.next_word.Goals as goal

pub returns : goal.returns
unfolding next σ0 σ1
returns c s h =
    let w = c.args.w.now in
    let t = c.args.t in
    let v = add (add c.small_sigma.result (get_or w (t - 7) 0)) (add c.small_sigma-2.result (get_or w (t - 16) 0)) in
    let e : v ≡ next w t = cc in
    let l : t < length w = search rules in
    scheduled_more w s t v (omega arith) l h e
