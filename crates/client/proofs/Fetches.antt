-- What a key holds for a buffer of the store's width, and what a buffer that was filled holds.
use Rattle.std.proofs.Common.{◌≡◌, ℕ, true, List, Some, unwrap_or, ap, ◌∙◌}
use Rattle.store.specs.Meaning.{Meaning, inside}
use Rattle.store.proofs.Refusals.{get_open}
use Rattle.client.specs.Fetch.{unless, fetched}

pub fetched_open : (m : Meaning) (c p w : ℕ) → inside m c p ≡ true → w ≡ m.width → fetched m c p w ≡ m.find c p
fetched_open m c p w i e = ap (λ o. unless o (m.find c p)) (get_open m c p w i e)

pub fetched_is : (m : Meaning) (c p size w : ℕ) (before after b : List ℕ) → after ≡ unwrap_or (fetched m c p size) before → size ≡ w → fetched m c p w ≡ Some b → after ≡ b
fetched_is m c p size w before after b e l f = e ∙ ap (λ n. unwrap_or (fetched m c p n) before) l ∙ ap (λ o. unwrap_or o before) f
