-- Numbers as bytes, the highest first.
use Rattle.std.specs.Prelude.{ℕ, zero, suc, ◌+◌, ◌*◌, ◌/◌, ◌%◌, ◌^◌, List, [], ◌∷◌, length}

-- the lowest n bytes of a number
abbrev pub be : ℕ → ℕ → List ℕ
be zero x = []
be (suc n) x = (x / 256 ^ n % 256) ∷ be n x

-- the number that bytes write
abbrev pub value : List ℕ → ℕ
value [] = 0
value (b ∷ bs) = b * 256 ^ length bs + value bs
