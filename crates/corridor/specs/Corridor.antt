-- The corridor rule: the label that stays from lo to up at every minute from 0 to H.
use Rattle.std.specs.Prelude.{◌≡◌, ℕ, ◌+◌, ◌<◌, ◌≤◌, ◌⊎◌, List, [], ◌∷◌}
use Rattle.curve.specs.declared.points.Point.{Point}
use Rattle.curve.specs.Curve.{between}

abbrev pub point : ℕ → ℕ → Point
point t y = record { departure = t; arrival = y }

-- height z serves at minute s: it is not below p's, and the line from p to it stays from lo to up at each minute between
pub record Serves (lo up : ℕ → ℕ) (p : Point) (s z : ℕ) : Type 0 where
  pub climbs : p.arrival ≤ z
  pub above : (t : ℕ) → p.departure < t → t < s → lo t ≤ between p (point s z) t
  pub below : (t : ℕ) → p.departure < t → t < s → between p (point s z) t ≤ up t

-- q is the next point after p among the minutes before n: the farthest that serves, and lo's height before up's
pub record Next (lo up : ℕ → ℕ) (n : ℕ) (p q : Point) : Type 0 where
  pub later : p.departure < q.departure
  pub inside : q.departure < n
  pub serves : Serves lo up p q.departure q.arrival
  pub chosen : (q.arrival ≡ lo q.departure) ⊎ ((q.arrival ≡ up q.departure) × (Serves lo up p q.departure (lo q.departure) → ⊥))
  pub farthest_lo : (s : ℕ) → q.departure < s → s < n → Serves lo up p s (lo s) → ⊥
  pub farthest_up : (s : ℕ) → q.departure < s → s < n → Serves lo up p s (up s) → ⊥

-- from p on, each point is the next after the one before, and the last is at H
abbrev pub Onwards : (ℕ → ℕ) → (ℕ → ℕ) → ℕ → Point → List Point → Type 0
Onwards lo up H p [] = p.departure ≡ H
Onwards lo up H p (q ∷ ps) = Next lo up (H + 1) p q × Onwards lo up H q ps

-- ps is the label: its first point is lo's at 0
abbrev pub Corridor : (ℕ → ℕ) → (ℕ → ℕ) → ℕ → List Point → Type 0
Corridor lo up H [] = ⊥
Corridor lo up H (p ∷ ps) = (p ≡ point 0 (lo 0)) × Onwards lo up H p ps

-- lo is at or below up at each minute from 0 to H
abbrev pub Ordered : (ℕ → ℕ) → (ℕ → ℕ) → ℕ → Type 0
Ordered lo up H = (t : ℕ) → t ≤ H → lo t ≤ up t

-- f never falls from 0 to H
abbrev pub NeverFalls : (ℕ → ℕ) → ℕ → Type 0
NeverFalls f H = (t u : ℕ) → t ≤ u → u ≤ H → f t ≤ f u

-- p is a place of the corridor
pub record Stands (lo up : ℕ → ℕ) (H : ℕ) (p : Point) : Type 0 where
  pub inside : p.departure ≤ H
  pub above : lo p.departure ≤ p.arrival
  pub below : p.arrival ≤ up p.departure
