use Rattle.std.proofs.Common.{◌≡◌, ℕ, ◌/◌, List, length, fold, rules, arith, refl, ap, ◌∙◌}
use Rattle.std.specs.List.{zip}
use Rattle.std.specs.Simd.{first_chunks}
use Rattle.std.proofs.lemmas.Iterator.{YieldsList-from_slice, YieldsList-from_zip}
use Rattle.std.proofs.lemmas.Iterator.Consumers.{fold_from_yields_List}
use Rattle.constants.specs.Tables.{round_constants}
use Rattle.sha256.specs.Sha256.{rounds}
use Rattle.sha256.specs.Steps.{round_with}
use Rattle.sha256.proofs.Chunks.{chunks_on}
use Rattle.sha256.proofs.rounds.Goals as goal

pub returns : goal.returns
unfolding round_constants rounds
returns c =
    let w = c.args.w.now in
    let l : length w ≡ 64 = search rules in
    let n : length w / 8 ≡ 8 = omega arith in
    fold_from_yields_List _ (λ s (p : List ℕ × List ℕ). fold round_with s (zip p.0 p.1)) c.args.h c.fold.result c.fold.ensures.ran
    (YieldsList-from_zip (YieldsList-from_slice (first_chunks 8 8 round_constants) (cc)) (YieldsList-from_slice (first_chunks 8 8 w) (c.zip.ensures.second.0 ∙ c.as_chunks-2.ensures.front ∙ ap (λ k. first_chunks 8 k w) n)))
    (λ a x b q k. search rules)
    ∙ chunks_on c.args.h w 8 0 64 (omega arith) (omega arith) refl
