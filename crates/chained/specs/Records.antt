-- What a record of a chained store says.
use Rattle.std.specs.Prelude.{◌≡◌, ℕ, ◌+◌, Bool, List, Some, None, Option, vec_items}
use Rattle.memory.specs.Part.{part}
use Rattle.chained_theory.specs.Layout.{start_of, next_at, closing_at, place_at, has_key}
use Rattle.chained.specs.declared.types.Chained.{Chained}
use Rattle.chained.specs.declared.records.Record.{Record}

-- it is the record with this number in the store, or there is none and the number is 0
abbrev pub IsRecord : Option Record → Chained → ℕ → Type 0
IsRecord None s i = i ≡ 0
IsRecord (Some r) s i = (r.number ≡ i) × (r.store.now ≡ s)

-- its number, 0 for none
abbrev pub link : Option Record → ℕ
link None = 0
link (Some r) = r.number

abbrev pub memory_of : Record → List ℕ
memory_of r = vec_items r.store.now.memory

abbrev pub width_of : Record → ℕ
width_of r = r.store.now.extent.limits.width

abbrev pub record_start : Record → ℕ
record_start r = start_of (width_of r) r.number

abbrev pub record_next : Record → ℕ
record_next r = next_at (memory_of r) (width_of r) r.number

abbrev pub record_closing : Record → ℕ
record_closing r = closing_at (memory_of r) (width_of r) r.number

abbrev pub record_place : Record → ℕ
record_place r = place_at (memory_of r) (width_of r) r.number

-- whether it is that of the key (c, p)
abbrev pub record_has : Record → ℕ → ℕ → Bool
record_has r c p = has_key (memory_of r) (width_of r) r.number c p

abbrev pub record_bytes : Record → List ℕ
record_bytes r = part (memory_of r) (record_start r + 12) (width_of r)
