-- A run of points, and what it reads at a minute.
use Rattle.std.specs.Prelude.{ℕ, ◌+◌, ◌-◌, ◌*◌, ◌/◌, ◌<◌, ◌≤◌, Bool, true, cond, ◌&&◌, List, [], ◌∷◌, length, nat_le, nat_lt, slice_index_or}
use Rattle.curve.specs.declared.points.Point.{Point}

-- what stands where no point does
abbrev pub no_point : Point
no_point = record { departure = 0; arrival = 0 }

-- the time that passes at a point
abbrev pub span : Point → ℕ
span p = p.arrival - p.departure

-- the straight line from p to q at minute x, the part minute dropped
unfoldable pub between : Point → Point → ℕ → ℕ
between p q x = p.arrival + (q.arrival - p.arrival) * (x - p.departure) / (q.departure - p.departure)

-- at or after the point p, with the points after it; after the last the time that passes stays
unfoldable pub along : Point → List Point → ℕ → ℕ
along p [] x = x + span p
along p (q ∷ qs) x = cond (nat_lt x q.departure) (between p q x) (along q qs x)

-- what a run of points reads at minute x
unfoldable pub reads : List Point → ℕ → ℕ
reads [] x = x
reads (p ∷ ps) x = along p ps x

-- one point and the next: departures rise, arrivals never fall
abbrev pub climbs : Point → Point → Bool
climbs p q = nat_lt p.departure q.departure && nat_le p.arrival q.arrival

abbrev pub climbing_from : Point → List Point → Bool
climbing_from p [] = true
climbing_from p (q ∷ qs) = climbs p q && climbing_from q qs

-- each point and the next
abbrev pub climbing : List Point → Bool
climbing [] = true
climbing (p ∷ ps) = climbing_from p ps

-- of a run of points, i is the last to set out at minute x or before
pub record IsLastBy (ps : List Point) (i x : ℕ) : Type 0 where
  pub inside : i < length ps
  pub from : (slice_index_or ps i no_point).departure ≤ x
  pub to : i + 1 < length ps → x < (slice_index_or ps (i + 1) no_point).departure
