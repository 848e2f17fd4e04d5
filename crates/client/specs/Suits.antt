-- Which stores a tree fits into.
use Rattle.std.specs.Prelude.{ℕ, ◌+◌, ◌^◌, Bool, ◌&&◌, ◌==◌, nat_le}
use Rattle.store.specs.Meaning.{Meaning, in_span}

-- Whether a store suits records of a width under closing c at a depth: its width is that one, and its keys hold the closing
-- with every place up to 2 ^ (depth + 1) - 1.
abbrev pub suits : Meaning → ℕ → ℕ → ℕ → Bool
suits m width c depth = m.width == width && (in_span m c && nat_le (2 ^ (depth + 1)) m.bound)
