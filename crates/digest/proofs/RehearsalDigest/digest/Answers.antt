use Rattle.std.proofs.Common.{◌≡◌, ℕ, ◌+◌, ◌%◌, ◌<◌, List, [], ◌∷◌, ◌++◌, replicate, fold, ap, ◌∙◌, arith, rules}
use Rattle.digest.specs.Digests.{sum, rehearsed}
use Rattle.digest.proofs.RehearsalDigest.digest.Goals as goal

fold_is : (xs : List ℕ) (a : ℕ) → a < 256 → fold (λ s x. (s + x) % 256) a xs ≡ (a + sum xs) % 256
fold_is [] a h = omega arith
fold_is (x ∷ xs) a h = let r = fold_is xs ((a + x) % 256) (omega arith) in omega arith

pub returns : goal.returns
unfolding rehearsed
returns c =
    let s = c.in_ok-text.text.now in
    let e : c.fold.result ≡ fold (λ s x. (s + x) % 256) 0 s = search rules in
    let g = e ∙ fold_is s 0 (omega arith) in
    let f : c.fold.result ≡ sum s % 256 = omega (arith, g) in
    (c.in_ok-text.ensures.0, ap (λ x. replicate 31 0 ++ (x ∷ [])) (f ∙ ap (λ l. sum l % 256) c.in_ok-text.ensures.1))
