-- A row's points are its pairs.
use Rattle.std.proofs.Common.{◌≡◌, ℕ, zero, suc, ◌≤◌, List, [], ◌∷◌, map, take, drop, refl, ap, ◌∙◌, arith}
use Rattle.std.specs.Simd.{first_chunks}
use Rattle.curve.specs.declared.points.Point.{Point}
use Rattle.rows.specs.Rows.{point_of, pairs}

first_pair : (xs : List ℕ) → point_of (take 2 xs) ≡ point_of xs
first_pair [] = refl
first_pair (a ∷ []) = refl
first_pair (a ∷ (b ∷ xs)) = refl

-- the first n pairs of k
pub pairs_are : (n k : ℕ) (xs : List ℕ) → n ≤ k → map point_of (take n (first_chunks 2 k xs)) ≡ pairs n xs
unfolding pairs
pairs_are zero k xs le = refl
pairs_are (suc n) zero xs le = absurd (omega (arith, le))
pairs_are (suc n) (suc k) xs le =
    ap (λ (p : Point). p ∷ map point_of (take n (first_chunks 2 k (drop 2 xs)))) (first_pair xs)
    ∙ ap (λ (ps : List Point). point_of xs ∷ ps) (pairs_are n k (drop 2 xs) (omega arith))
