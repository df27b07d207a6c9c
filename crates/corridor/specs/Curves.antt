-- Curves as the code has them: a height for each minute.
use Rattle.std.specs.Prelude.{◌≡◌, ℕ, ◌+◌, ◌-◌, ◌^◌, ◌<◌, ◌≤◌, List, length, take, drop, slice_index}
use Rattle.curve.specs.declared.points.Point.{Point}
use Rattle.corridor.specs.Corridor.{Corridor, Ordered, NeverFalls}

-- the height at minute t
abbrev pub curve_of : List ℕ → ℕ → ℕ
curve_of xs t = slice_index xs t

-- the last minute, H: there are H + 1 heights
abbrev pub last : List ℕ → ℕ
last xs = length xs - 1

-- two curves between which a label is made
pub record Curves (lo up : List ℕ) : Type 0 where
  pub same : length up ≡ length lo
  pub some : 0 < length lo
  pub short : length lo < 2 ^ 32
  pub ordered : Ordered (curve_of lo) (curve_of up) (last lo)
  pub rising : NeverFalls (curve_of up) (last lo)
  pub small : (t : ℕ) → t ≤ last lo → curve_of up t + 1 < 2 ^ 32

-- ps is the label of two such curves
abbrev pub Label : List ℕ → List ℕ → List Point → Type 0
Label lo up ps = Corridor (curve_of lo) (curve_of up) (last lo) ps

-- the first n places hold the label, and the others what they held
pub record Written (lo up : List ℕ) (before after : List Point) (n : ℕ) : Type 0 where
  pub room : n ≤ length after
  pub label : Label lo up (take n after)
  pub rest : drop n after ≡ drop n before
