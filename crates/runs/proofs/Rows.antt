-- Where rows lie.
use Rattle.std.proofs.Common.{◌≡◌, ℕ, zero, suc, ◌+◌, ◌*◌, ◌<◌, ◌≤◌, not, eqb, List, length, get_or, take, drop, sym, refl, ap, ◌∙◌, mul-le-mul_right, suc-mul, arith, length-drop, ne_eqb}
use Rattle.std.proofs.lemmas.List.{length-take-le, get_or-drop}
use Rattle.curve.specs.Curve.{no_point}
use Rattle.rows.specs.Rows.{width, points, pairs}
use Rattle.runs.specs.Sheet.{row, any}

-- a row lies within the rows
pub room_for : (P n v len : ℕ) → n * width P ≤ len → v < n → v * width P + width P ≤ len
room_for P n v len room lt = let z : suc v * width P ≤ n * width P = mul-le-mul_right (width P) lt in omega (arith, suc-mul v (width P))

pub row_length : (P n v : ℕ) (rows : List ℕ) → n * width P ≤ length rows → v < n → length (row P rows v) ≡ width P
unfolding row
row_length P n v rows room lt =
    let fit = room_for P n v (length rows) room lt in
    length-take-le (width P) (drop (v * width P) rows) (simp length-drop (omega arith))

-- as a part of the rows
pub row_part : (P v a k : ℕ) (rows : List ℕ) → a ≡ v * width P → k ≡ width P → take k (drop a rows) ≡ row P rows v
unfolding row
row_part P v a k rows e i = ap (λ (x : ℕ). take x (drop a rows)) i ∙ ap (λ (x : ℕ). take (width P) (drop x rows)) e

length_pairs : (c : ℕ) (xs : List ℕ) → length (pairs c xs) ≡ c
unfolding pairs
length_pairs zero xs = refl
length_pairs (suc c) xs = ap suc (length_pairs c (drop 2 xs))

-- a row's first number is how many points it has
pub count_points : (xs : List ℕ) → length (points xs) ≡ get_or xs 0 0
unfolding points
count_points xs = length_pairs (get_or xs 0 0) (drop 1 xs)

-- a row has a label just if that is not 0
pub any_points : (xs : List ℕ) → any (points xs) ≡ not (eqb (get_or xs 0 0) 0)
unfolding points pairs
any_points xs = go (get_or xs 0 0) (drop 1 xs)
  where
    go : (c : ℕ) (ys : List ℕ) → any (pairs c ys) ≡ not (eqb c 0)
    go zero ys = refl
    go (suc c) ys = sym (ap not (ne_eqb (suc c) 0 (λ e. omega (arith, e))))

-- the first point of a row that has a label
pub first_point : (xs : List ℕ) → 0 < get_or xs 0 0 → (get_or (points xs) 0 no_point).arrival ≡ get_or xs 2 0
unfolding points pairs
first_point xs some = go (get_or xs 0 0) some ∙ get_or-drop 1 xs 1 0
  where
    go : (c : ℕ) → 0 < c → (get_or (pairs c (drop 1 xs)) 0 no_point).arrival ≡ get_or (drop 1 xs) 1 0
    go zero h = absurd (omega (arith, h))
    go (suc c) h = refl
