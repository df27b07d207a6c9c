-- The sample town, and what it comes to.
use Rattle.std.specs.Prelude.{◌≡◌, ℕ, List, [], ◌∷◌, Some}
use Rattle.curve.specs.declared.points.Point.{Point}
use Rattle.network.specs.declared.tables.Road.{Road}
use Rattle.network.specs.Net.{Net}
use Rattle.runs.specs.declared.Figures.{Figures}
use Rattle.runs.specs.Sheet.{allow}

-- from a node to a node, by so many points from a first one on
abbrev pub road : ℕ → ℕ → ℕ → ℕ → Road
road tail head first count = record { tail = tail; head = head; first = first; count = count }

-- who enters at minute x arrives at minute a
abbrev pub point : ℕ → ℕ → Point
point x a = record { departure = x; arrival = a }

abbrev pub town_roads : List Road
town_roads = road 0 1 0 3 ∷ (road 0 2 3 1 ∷ (road 1 3 4 1 ∷ (road 2 3 5 3 ∷ [])))

abbrev pub town_points : List Point
town_points =
    point 0 10 ∷ (point 20 40 ∷ (point 60 70 ∷ (point 0 15 ∷ (point 0 12
    ∷ (point 0 5 ∷ (point 30 35 ∷ (point 50 75 ∷ [])))))))

-- the figures of its sheet: departures up to 60, 8 points a row, an allowance of a tenth, the origin 0
abbrev pub town_figures : Figures
town_figures = record { nodes = 4; roads = 4; window = 60; places = 8; allowance = 1000; origin = Some 0 }

-- two crossings of the road 0, fractions dropped, and the minutes by which a label may be late over each road
pub record WorkedOut (net : Net) : Type 0 where
  pub entered_at_5 : net.cross 0 5 ≡ 17
  pub entered_at_30 : net.cross 0 30 ≡ 47
  pub late_over_0 : allow net town_figures 0 ≡ 1
  pub late_over_1 : allow net town_figures 1 ≡ 1
  pub late_over_2 : allow net town_figures 2 ≡ 1
  pub late_over_3 : allow net town_figures 3 ≡ 0
