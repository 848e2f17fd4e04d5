-- What a chained store means.
use Rattle.std.specs.Prelude.{ℕ, vec_items}
use Rattle.store.specs.declared.limits.Limits.{Limits}
use Rattle.store.specs.Meaning.{Meaning}
use Rattle.store.specs.Calls.{Empty}
use Rattle.chained_theory.specs.Layout.{seek_in}
use Rattle.chained.specs.declared.types.Chained.{Chained}
use Rattle.chained.specs.Sizes.{meaning_of}

abbrev pub chained_meaning : Chained → Meaning
chained_meaning s = meaning_of (vec_items s.memory) s.extent.limits s.count s.room

-- nothing is written yet, within these limits
abbrev pub IsEmpty : Chained → Limits → ℕ → Type 0
IsEmpty s l n = Empty (chained_meaning s) l.width l.first l.last l.bound n

-- the record with the key (c, p), 0 for none
abbrev pub sought : Chained → ℕ → ℕ → ℕ
sought s c p = seek_in (vec_items s.memory) s.extent.limits.width s.count c p
