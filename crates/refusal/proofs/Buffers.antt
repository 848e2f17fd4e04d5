-- What is written to a buffer.
use Rattle.std.proofs.Common.{◌≡◌, ℕ, ◌≤◌, List, ◌++◌, length, ap, ◌∙◌, append-nil}
use Rattle.std.proofs.lemmas.List.{drop_all}
use Rattle.refusal.specs.Tables.{written}

-- a buffer of no more than its length holds nothing else
pub written_all : (said buffer : List ℕ) → length buffer ≤ length said → written said buffer ≡ said
written_all said buffer h = ap (λ x. said ++ x) (drop_all (length said) buffer h) ∙ append-nil said
