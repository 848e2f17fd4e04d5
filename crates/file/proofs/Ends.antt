-- Every field ends within the file.
use Rattle.std.proofs.Common.{ℕ, zero, suc, ◌+◌, ◌-◌, ◌*◌, ◌<◌, ◌≤◌, mul-le-mul_right, add-mul, arith}
use Rattle.file.specs.Layout.{file_length}
use Rattle.file.specs.Fields.{offset_at, length_at}

-- one more step fits
pub step_fits : (j n w : ℕ) → j < n → j * w + w ≤ n * w
step_fits j n w h =
    let p : (j + 1) * w ≤ n * w = mul-le-mul_right w (let q : j + 1 ≤ n = omega arith in q) in
    omega (arith, add-mul j 1 w)

pub within : (width i count : ℕ) → 4 ≤ count → i < count → offset_at width i + length_at width i ≤ file_length width (count - 4)
within width zero count f h = omega arith
within width (suc zero) count f h = omega arith
within width (suc (suc zero)) count f h = omega arith
within width (suc (suc (suc zero))) count f h = omega arith
within width (suc (suc (suc (suc j)))) count f h =
    let p = step_fits j (count - 4) (32 + width) (omega arith) in
    omega arith
