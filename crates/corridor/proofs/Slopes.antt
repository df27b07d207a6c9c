-- Fractions compared by cross-multiplication.
use Rattle.std.proofs.Common.{ℕ, ◌*◌, ◌<◌, ◌≤◌, le_of_lt, mul-le-mul_right, lt_of_mul-lt-mul_right, mul-lt-mul_of_pos_right, le_of_mul-le-mul_right, arith}

-- l/p ≤ a/b and a/b ≤ n/m
pub le_le : (l p a b n m : ℕ) → 0 < b → l * b ≤ a * p → a * m ≤ n * b → l * m ≤ n * p
le_le l p a b n m pos h k = le_of_mul-le-mul_right {m = l * m} {n = n * p} {k = b} (omega (arith, mul-le-mul_right m h, mul-le-mul_right p k)) pos

-- n/m < c/d and c/d ≤ u/p
pub lt_le : (n m c d u p : ℕ) → 0 < p → n * d < c * m → c * p ≤ u * d → n * p < u * m
lt_le n m c d u p pos h k = lt_of_mul-lt-mul_right d {m = n * p} {n = u * m} (omega (arith, mul-lt-mul_of_pos_right {k = p} h pos, mul-le-mul_right m k))

-- u/p < c/d and n/m < u/p
pub lt_lt : (n m u p c d : ℕ) → 0 < m → n * p < u * m → u * d < c * p → n * d < c * m
lt_lt n m u p c d pos h k = lt_of_mul-lt-mul_right p {m = n * d} {n = c * m} (omega (arith, mul-le-mul_right d (le_of_lt h), mul-lt-mul_of_pos_right {k = m} k pos))

-- c/d ≤ a/b: no n/m lies between
pub none_between : (a b c d n m : ℕ) → 0 < b → c * b ≤ a * d → a * m ≤ n * b → n * d < c * m → ⊥
none_between a b c d n m pos h k j = omega (arith, mul-lt-mul_of_pos_right {k = b} j pos, mul-le-mul_right m h, mul-le-mul_right d k)
