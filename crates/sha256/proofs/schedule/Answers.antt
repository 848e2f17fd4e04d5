use Rattle.std.proofs.Common.{◌≡◌, ◌/◌, ◌<◌, [], length, get_or, sym, refl, ap, ◌∙◌, arith, length-set, take_all, rules}
use Rattle.octets.specs.BigEndian.{value}
use Rattle.sha256.specs.Sha256.{words, scheduled, schedule}
use Rattle.sha256.proofs.Chunks.{chunk_at, word_is}
use Rattle.sha256.proofs.Turns.{words_more}
use Rattle.sha256.proofs.schedule.Goals as goal

pub loop-t-init : goal.loop-t-init
unfolding words
loop-t-init c = (refl, refl)

pub loop-t-preserved : goal.loop-t-preserved
loop-t-preserved c =
    let s = c.args.block.now in
    let t = c.loop-t.t in
    let l : length s ≡ 64 = search rules in
    let h : t < length s / 4 = omega (arith, c.loop-t-test.true, c.as_chunks.ensures.front_len) in
    let e = c.of_be_bytes.ensures ∙ ap (λ x. value (get_or x t [])) c.as_chunks.ensures.front ∙ ap value (chunk_at 4 (length s / 4) t s h) ∙ word_is s t (omega arith) in
    (simp length-set c.loop-t.invariant.0, words_more c.loop-t.w s t c.of_be_bytes.result (omega arith) c.loop-t.invariant.1 e)

pub loop-t-2-init : goal.loop-t-2-init
unfolding scheduled
loop-t-2-init c =
    let t : c.loop-t.t ≡ 16 = omega arith in
    (c.loop-t.invariant.0, rw t at c.loop-t.invariant.1)

pub returns : goal.returns
unfolding schedule
returns c =
    let t : c.loop-t-2.t ≡ 64 = omega arith in
    sym (take_all 64 c.loop-t-2.w (omega arith)) ∙ rw t at c.loop-t-2.invariant.1
