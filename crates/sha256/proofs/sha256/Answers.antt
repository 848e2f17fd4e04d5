use Rattle.std.proofs.Common.{◌≡◌, ◌-◌, ◌*◌, ◌/◌, ◌%◌, length, drop, fold, ap, ◌∙◌, arith, length-drop}
use Rattle.constants.specs.Tables.{initial_hash}
use Rattle.sha256.specs.Sha256.{chaining, compress, bytes}
use Rattle.sha256.proofs.Chunks.{blocks_on}
use Rattle.sha256.proofs.Ends.{ends}
use Rattle.sha256.proofs.sha256.Goals as goal
use Rattle.sha256.proofs.sha256.Goals.{then-rest-lt56, else-rest-lt56}

pub returns : goal.returns
unfolding chaining initial_hash
returns c =
    let s = c.args.text.now in
    let n = length s / 64 in
    let rest = c.as_chunks.result.1.now in
    let r : rest ≡ drop (n * 64) s = c.as_chunks.ensures.back in
    let l : length rest ≡ length s % 64 = ap length r ∙ length-drop (n * 64) s ∙ (let a : length s - n * 64 ≡ length s % 64 = omega arith in a) in
    let h : c.chaining-h.result ≡ chaining n s = c.chaining-h.ensures ∙ ap (fold compress initial_hash) c.as_chunks.ensures.front ∙ blocks_on s n 0 n (omega arith) in
    c.bytes_of.ensures ∙ elim c.if-rest-lt56.branch [
      | then-rest-lt56 w ↦
          ap bytes (w.bytes_of-is ∙ w.chaining.ensures ∙ ap (fold compress c.chaining-h.result) w.as_chunks-then-rest-lt56.ensures.front)
          ∙ ends s rest w.last.result c.chaining-h.result (55 - length rest) r h w.last.ensures (omega arith) (omega arith)
      | else-rest-lt56 w ↦
          ap bytes (w.bytes_of-is ∙ w.chaining-else-rest-lt56.ensures ∙ ap (fold compress c.chaining-h.result) w.as_chunks-else-rest-lt56.ensures.front)
          ∙ ends s rest w.last-else-rest-lt56.result c.chaining-h.result (119 - length rest) r h w.last-else-rest-lt56.ensures (omega arith) (omega arith)
    ]
