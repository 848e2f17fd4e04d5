-- What a flat store means.
use Rattle.std.specs.Prelude.{ℕ, List, Option, vec_items}
use Rattle.store.specs.declared.limits.Limits.{Limits}
use Rattle.store.specs.Meaning.{Meaning}
use Rattle.store.specs.Calls.{Empty}
use Rattle.flat_theory.specs.Layout.{slot_at}
use Rattle.flat.specs.declared.types.Flat.{Flat}
use Rattle.flat.specs.Sizes.{meaning_of, room_of}

abbrev pub flat_meaning : Flat → Meaning
flat_meaning s = meaning_of (vec_items s.memory) s.extent.limits s.room

-- what the slot that starts at a byte says
abbrev pub slot_in : Flat → ℕ → Option (List ℕ)
slot_in s at = slot_at (vec_items s.memory) s.extent.limits.width at

-- nothing is written yet, within these limits
abbrev pub IsEmpty : Flat → Limits → Type 0
IsEmpty s l = Empty (flat_meaning s) l.width l.first l.last l.bound (room_of l)
