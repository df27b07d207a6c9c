-- A label laid out as a row of numbers, and read back.
use Rattle.std.specs.Prelude.{◌≡◌, ℕ, zero, suc, ◌+◌, ◌-◌, ◌*◌, List, [], ◌∷◌, ◌++◌, length, drop, replicate, slice_index, refl}
use Rattle.std.proofs.Common.{ap}
use Rattle.curve.specs.declared.points.Point.{Point}

-- how many numbers a row with places for P points has
abbrev pub width : ℕ → ℕ
width P = 1 + 2 * P

-- the points' numbers: a departure and its arrival, point by point
abbrev pub flat : List Point → List ℕ
flat [] = []
flat (p ∷ ps) = p.departure ∷ (p.arrival ∷ flat ps)

-- the row with places for P points that holds ps: their count, the points, and 0 in the places left
unfoldable pub laid_out : ℕ → List Point → List ℕ
laid_out P ps = length ps ∷ (flat ps ++ replicate (2 * P - 2 * length ps) 0)

-- a departure and its arrival, as a point
abbrev pub point_of : List ℕ → Point
point_of pair = record { departure = slice_index pair 0; arrival = slice_index pair 1 }

-- the first c pairs of numbers, as points
unfoldable pub pairs : ℕ → List ℕ → List Point
pairs zero xs = []
pairs (suc c) xs = record { departure = slice_index xs 0; arrival = slice_index xs 1 } ∷ pairs c (drop 2 xs)

-- the points of a row: as many as its first number says
unfoldable pub points : List ℕ → List Point
points row = pairs (slice_index row 0) (drop 1 row)

-- laid out, points are read back as they were
pub pairs_flat : (ps : List Point) (xs : List ℕ) → pairs (length ps) (flat ps ++ xs) ≡ ps
unfolding pairs
pairs_flat [] xs = refl
pairs_flat (p ∷ ps) xs = ap (λ (qs : List Point). p ∷ qs) (pairs_flat ps xs)

pub laid_back : (P : ℕ) (ps : List Point) → points (laid_out P ps) ≡ ps
unfolding points laid_out
laid_back P ps = pairs_flat ps _
