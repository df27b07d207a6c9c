-- What the slopes of a scan mean.
use Rattle.std.specs.Prelude.{ℕ, ◌+◌, ◌-◌, ◌*◌, ◌<◌, ◌≤◌}
use Rattle.curve.specs.declared.points.Point.{Point}
use Rattle.corridor.specs.declared.funnel.Slope.{Slope}
use Rattle.corridor.specs.declared.funnel.Funnel.{Funnel}

abbrev pub AtMost : Slope → Slope → Type 0
AtMost a b = a.rise * b.run ≤ b.rise * a.run

abbrev pub Exceeds : Slope → Slope → Type 0
Exceeds a b = b.rise * a.run < a.rise * b.run

-- rise n over run m is at least the slope
abbrev pub Over : Slope → ℕ → ℕ → Type 0
Over a n m = a.rise * m ≤ n * a.run

-- rise n over run m is below the slope
abbrev pub Under : Slope → ℕ → ℕ → Type 0
Under a n m = n * a.run < a.rise * m

abbrev pub Admits : Funnel → ℕ → ℕ → Type 0
Admits f n m = Over f.lower n m × Under f.upper n m

-- the line from p to q does not fall, and the funnel admits its slope
abbrev pub Fits : Funnel → Point → Point → Type 0
Fits f p q = (p.arrival ≤ q.arrival) × Admits f (q.arrival - p.arrival) (q.departure - p.departure)

-- the line from p that rises n over m minutes lies from lo to up at minute x, told by products
abbrev pub Within : (ℕ → ℕ) → (ℕ → ℕ) → Point → ℕ → ℕ → ℕ → Type 0
Within lo up p x n m = ((lo x - p.arrival) * m ≤ n * (x - p.departure)) × (n * (x - p.departure) < (up x + 1 - p.arrival) * m)

-- the funnel admits the lines that lie within at every minute after p's and before s, and no others
pub record Seen (lo up : ℕ → ℕ) (p : Point) (s : ℕ) (f : Funnel) : Type 0 where
  pub sound : (n m : ℕ) → 0 < m → Admits f n m → (x : ℕ) → p.departure < x → x < s → Within lo up p x n m
  pub whole : (n m : ℕ) → 0 < m → ((x : ℕ) → p.departure < x → x < s → Within lo up p x n m) → Admits f n m
