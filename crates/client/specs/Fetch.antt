-- What a key holds for a buffer: nothing where getting would be refused.
use Rattle.std.specs.Prelude.{ℕ, List, Some, None, Option}
use Rattle.refusal.specs.declared.cases.Refusal.{Refusal}
use Rattle.store.specs.Meaning.{Meaning}
use Rattle.store.specs.Calls.{get_refusal}

abbrev pub unless : {X : Type 0} → Option Refusal → Option X → Option X
unless None found = found
unless (Some r) found = None

abbrev pub fetched : Meaning → ℕ → ℕ → ℕ → Option (List ℕ)
fetched m c p size = unless (get_refusal m c p size) (m.find c p)
