-- The laws of the line between two points: whoever reads between points uses these alone.
use Rattle.std.specs.Prelude.{◌≡◌, ℕ, ◌+◌, ◌-◌, ◌*◌, ◌/◌, ◌<◌, ◌≤◌}
use Rattle.std.proofs.Common.{ap, ◌∙◌, arith, mul-div_cancel, mul-zero, le-div_iff_mul-le, div-lt_iff_lt-mul}
use Rattle.std.proofs.Math.Nat.{zero-div}
use Rattle.curve.specs.declared.points.Point.{Point}
use Rattle.curve.specs.Curve.{between, span}
use Rattle.curve.specs.Parts.{part_le, part_mono, part_low, part_high}

-- exact at its first point
pub between_start : (p q : Point) (x : ℕ) → x ≡ p.departure → between p q x ≡ p.arrival
unfolding between
between_start p q x e =
    let z : x - p.departure ≡ 0 = omega arith in
    let y : (q.arrival - p.arrival) * (x - p.departure) / (q.departure - p.departure) ≡ 0 = ap (λ (k : ℕ). (q.arrival - p.arrival) * k / (q.departure - p.departure)) z ∙ ap (λ (k : ℕ). k / (q.departure - p.departure)) (mul-zero (q.arrival - p.arrival)) ∙ zero-div (q.departure - p.departure) in
    omega arith

-- and at its last
pub between_end : (p q : Point) (x : ℕ) → p.departure < q.departure → p.arrival ≤ q.arrival → x ≡ q.departure → between p q x ≡ q.arrival
unfolding between
between_end p q x lt le e =
    let w : 0 < q.departure - p.departure = omega arith in
    let y : (q.arrival - p.arrival) * (x - p.departure) / (q.departure - p.departure) ≡ q.arrival - p.arrival = ap (λ (k : ℕ). (q.arrival - p.arrival) * (k - p.departure) / (q.departure - p.departure)) e ∙ mul-div_cancel (q.arrival - p.arrival) w in
    omega arith

-- not below its first point
pub between_from : (p q : Point) (x : ℕ) → p.arrival ≤ between p q x
unfolding between
between_from p q x = omega arith

-- nor above its last
pub between_to : (p q : Point) (x : ℕ) → p.departure < q.departure → p.arrival ≤ q.arrival → x ≤ q.departure → between p q x ≤ q.arrival
unfolding between
between_to p q x lt le to =
    let o = part_le (q.arrival - p.arrival) (x - p.departure) (q.departure - p.departure) (omega arith) in
    omega arith

-- it never falls
pub between_mono : (p q : Point) (x y : ℕ) → p.departure < q.departure → x ≤ y → between p q x ≤ between p q y
unfolding between
between_mono p q x y lt h =
    let o = part_mono (q.arrival - p.arrival) (x - p.departure) (y - p.departure) (q.departure - p.departure) (omega arith) (omega arith) in
    omega arith

-- where both ends take at least l, so does every minute between
pub between_low : (p q : Point) (x l : ℕ) → p.departure < q.departure → p.arrival ≤ q.arrival → p.departure + l ≤ p.arrival → q.departure + l ≤ q.arrival → p.departure ≤ x → x ≤ q.departure → x + l ≤ between p q x
unfolding between
between_low p q x l lt le a b h k =
    let o = part_low (q.arrival - p.arrival) (x - p.departure) (q.departure - p.departure) (span p - l) (omega arith) (omega arith) (omega arith) in
    omega arith

-- where both ends take at most l, so does every minute between
pub between_high : (p q : Point) (x l : ℕ) → p.arrival ≤ q.arrival → p.arrival ≤ p.departure + l → q.arrival ≤ q.departure + l → p.departure ≤ p.arrival → p.departure ≤ x → x ≤ q.departure → between p q x ≤ x + l
unfolding between
between_high p q x l le a b c h k =
    let o = part_high (q.arrival - p.arrival) (x - p.departure) (q.departure - p.departure) (l - span p) (omega arith) (omega arith) in
    omega arith

-- the line is at v or above, told by products
pub at_least : (p q : Point) (x v : ℕ) → p.departure < q.departure → (v - p.arrival) * (q.departure - p.departure) ≤ (q.arrival - p.arrival) * (x - p.departure) → v ≤ between p q x
unfolding between
at_least p q x v lt h =
    let w : 0 < q.departure - p.departure = omega arith in
    let o : v - p.arrival ≤ (q.arrival - p.arrival) * (x - p.departure) / (q.departure - p.departure) = (le-div_iff_mul-le w).1 h in
    omega arith

pub at_least⁻ : (p q : Point) (x v : ℕ) → p.departure < q.departure → v ≤ between p q x → (v - p.arrival) * (q.departure - p.departure) ≤ (q.arrival - p.arrival) * (x - p.departure)
unfolding between
at_least⁻ p q x v lt h = (le-div_iff_mul-le {k = q.departure - p.departure} (omega arith)).0 (omega arith)

-- the line is at v or below, told by products
pub at_most : (p q : Point) (x v : ℕ) → p.departure < q.departure → (q.arrival - p.arrival) * (x - p.departure) < (v + 1 - p.arrival) * (q.departure - p.departure) → between p q x ≤ v
unfolding between
at_most p q x v lt h =
    let w : 0 < q.departure - p.departure = omega arith in
    let o : (q.arrival - p.arrival) * (x - p.departure) / (q.departure - p.departure) < v + 1 - p.arrival = (div-lt_iff_lt-mul w).1 h in
    omega arith

pub at_most⁻ : (p q : Point) (x v : ℕ) → p.departure < q.departure → between p q x ≤ v → (q.arrival - p.arrival) * (x - p.departure) < (v + 1 - p.arrival) * (q.departure - p.departure)
unfolding between
at_most⁻ p q x v lt h =
    let w : 0 < q.departure - p.departure = omega arith in
    (div-lt_iff_lt-mul w).0 (omega arith)
