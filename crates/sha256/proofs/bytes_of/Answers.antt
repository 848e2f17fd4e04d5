use Rattle.std.proofs.Common.{◌≡◌, ◌/◌, ◌%◌, get_or, length, sym, ap, refl, ◌∙◌, rules}
use Rattle.std.proofs.lemmas.List.FromFn.{fill_by_all}
use Rattle.octets.specs.BigEndian.{be}
use Rattle.sha256.specs.Sha256.{bytes}
use Rattle.sha256.proofs.Made.{made}
use Rattle.sha256.proofs.bytes_of.Goals as goal

pub returns : goal.returns
unfolding bytes
returns c =
    let h = c.args.h in
    let l : length h ≡ 8 = search rules in
    let w = fill_by_all (λ k. get_or h k 0) h 8 0 l (λ k m. refl) in
    made _ _ (λ i. get_or (be 4 (get_or h (i / 4) 0)) (i % 4) 0) (λ i y q k. search rules) c.from_fn.result 32 c.from_fn.ensures.items ∙ sym (ap bytes w)
