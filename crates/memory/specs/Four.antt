-- A number of four bytes, the highest first, that stands in a list of bytes.
use Rattle.std.specs.Prelude.{ℕ, ◌+◌, ◌*◌, ◌/◌, ◌%◌, List, slice_index, slice_set}

-- the number that stands at i
abbrev pub be4 : List ℕ → ℕ → ℕ
be4 xs i = slice_index xs i * 16777216 + slice_index xs (i + 1) * 65536 + slice_index xs (i + 2) * 256 + slice_index xs (i + 3)

-- xs with the number n, which is below 2^32, written at i
abbrev pub put4 : List ℕ → ℕ → ℕ → List ℕ
put4 xs i n = slice_set (slice_set (slice_set (slice_set xs i (n / 16777216)) (i + 1) (n / 65536 % 256)) (i + 2) (n / 256 % 256)) (i + 3) (n % 256)
