-- A part of a rise, the fraction dropped.
use Rattle.std.specs.Prelude.{ℕ, ◌+◌, ◌*◌, ◌/◌, ◌<◌, ◌≤◌}
use Rattle.std.proofs.Common.{arith, le-div_iff_mul-le, mul-le-mul_left, mul-le-mul_right, mul_comm, div-mul-le_self, le_trans, add-mul, mul-add}
use Rattle.std.proofs.Math.Nat.{div-le_of_le-mul, add-mul-div_right}

-- a part k / w of a is at most a
pub part_le : (a k w : ℕ) → k ≤ w → a * k / w ≤ a
part_le a k w h = div-le_of_le-mul w (omega (arith, mul-le-mul_left a h, mul_comm w a))

-- parts rise with k
pub part_mono : (a k l w : ℕ) → 0 < w → k ≤ l → a * k / w ≤ a * l / w
part_mono a k l w p h = (le-div_iff_mul-le p).1 (le_trans (div-mul-le_self (a * k) w) (mul-le-mul_left a h))

-- where a is at least w - e, the part falls short of k by at most e
pub part_low : (a k w e : ℕ) → 0 < w → k ≤ w → w ≤ a + e → k ≤ a * k / w + e
part_low a k w e p h g =
    let wide : k * w ≤ a * k + e * w = omega (arith, mul-le-mul_left k g, mul-add k a e, mul_comm k a, mul_comm k e, mul-le-mul_left e h) in
    let q : k ≤ (a * k + e * w) / w = (le-div_iff_mul-le p).1 wide in
    rw (add-mul-div_right (a * k) e p) at q

-- where a is at most w + f, the part passes k by at most f
pub part_high : (a k w f : ℕ) → k ≤ w → a ≤ w + f → a * k / w ≤ k + f
part_high a k w f h g =
    div-le_of_le-mul w (omega (arith, mul-le-mul_right k g, add-mul w f k, mul-le-mul_left f h, mul_comm f w, mul-add w k f))
