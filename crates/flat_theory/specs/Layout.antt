-- Where a flat store keeps each record, and what its bytes mean.
use Rattle.std.specs.Prelude.{ℕ, ◌+◌, ◌-◌, ◌*◌, cond, not, ◌&&◌, List, [], ◌∷◌, Some, None, Option, ◌==◌, nat_le, slice_index}
use Rattle.refusal.specs.declared.cases.Refusal.{Refusal}
use Rattle.refusal.specs.declared.cases.Refusal.TheVariants.{MemoryUnfit}
use Rattle.refusal.specs.Tables.{◌⇒◌, first}
use Rattle.memory.specs.Part.{part}
use Rattle.store.specs.Meaning.{Meaning, holds_key, valid_limits}

-- the bytes that a store with these limits takes
abbrev pub flat_bytes : ℕ → ℕ → ℕ → ℕ → ℕ
flat_bytes w f l b = (l + 1 - f) * b * (w + 1)

-- its room at the start
abbrev pub flat_room : ℕ → ℕ → ℕ → ℕ
flat_room f l b = (l + 1 - f) * (b - 1)

-- measuring: a limit broken, or a memory of n bytes too short
abbrev pub flat_refusal : ℕ → ℕ → ℕ → ℕ → ℕ → Option Refusal
flat_refusal w f l b n = first ((not (valid_limits w f l b && nat_le (flat_bytes w f l b) n) ⇒ MemoryUnfit) ∷ [])

-- the first byte of a key's slot
unfoldable pub slot_of : ℕ → ℕ → ℕ → ℕ → ℕ → ℕ
slot_of w f b c p = ((c - f) * b + p) * (w + 1)

-- what the slot at i says: mark 1, and the record behind it
abbrev pub slot_at : List ℕ → ℕ → ℕ → Option (List ℕ)
slot_at mem w i = cond (slice_index mem i == 1) (Some (part mem (i + 1) w)) None

abbrev pub flat_find : List ℕ → ℕ → ℕ → ℕ → ℕ → ℕ → ℕ → Option (List ℕ)
flat_find mem w f l b c p = cond (holds_key f l b c p) (slot_at mem w (slot_of w f b c p)) None

abbrev pub flat_of : List ℕ → ℕ → ℕ → ℕ → ℕ → ℕ → Meaning
flat_of mem w f l b room = record { width = w; first = f; last = l; bound = b; find = flat_find mem w f l b; room = room }
