-- The layout's numbers, of limits as code holds them.
use Rattle.std.specs.Prelude.{ℕ, List, Option}
use Rattle.refusal.specs.declared.cases.Refusal.{Refusal}
use Rattle.store.specs.declared.limits.Limits.{Limits}
use Rattle.store.specs.Meaning.{Meaning}
use Rattle.flat_theory.specs.Layout.{flat_of, flat_bytes, flat_room, flat_refusal, slot_of}

abbrev pub bytes_of : Limits → ℕ
bytes_of l = flat_bytes l.width l.first l.last l.bound

abbrev pub room_of : Limits → ℕ
room_of l = flat_room l.first l.last l.bound

-- measuring a memory of n bytes
abbrev pub refusal_of : Limits → ℕ → Option Refusal
refusal_of l n = flat_refusal l.width l.first l.last l.bound n

abbrev pub meaning_of : List ℕ → Limits → ℕ → Meaning
meaning_of mem l room = flat_of mem l.width l.first l.last l.bound room

-- the first byte of the slot of (c, p)
abbrev pub start_of : Limits → ℕ → ℕ → ℕ
start_of l c p = slot_of l.width l.first l.bound c p
