-- The layout's numbers, of limits as code holds them.
use Rattle.std.specs.Prelude.{ℕ, List, Option}
use Rattle.refusal.specs.declared.cases.Refusal.{Refusal}
use Rattle.store.specs.declared.limits.Limits.{Limits}
use Rattle.store.specs.Meaning.{Meaning}
use Rattle.chained_theory.specs.Layout.{chained_of, chained_refusal}
use Rattle.chained_theory.specs.Links.{Linked}

-- measuring a memory of m bytes for n records
abbrev pub refusal_of : Limits → ℕ → ℕ → Option Refusal
refusal_of l n m = chained_refusal l.width l.first l.last l.bound n m

abbrev pub meaning_of : List ℕ → Limits → ℕ → ℕ → Meaning
meaning_of mem l n room = chained_of mem l.width n l.first l.last l.bound room

-- the records lie in the chains, and each key stands once
abbrev pub IsLinked : List ℕ → Limits → ℕ → ℕ → Type 0
IsLinked mem l n room = Linked mem l.width n l.first l.last l.bound room
