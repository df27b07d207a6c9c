-- Tabulated roads: the rule of a road, and what its points mean.
use Rattle.std.specs.Prelude.{◌≡◌, ℕ, ◌+◌, ◌<◌, ◌≤◌, min, Bool, ◌&&◌, List, length, map, get_or, take, drop, Option, ◌==◌, nat_le, nat_lt, slice_index_or}
use Rattle.std.specs.List.{list_all, reduce}
use Rattle.std.specs.Option.{unwrap_or}
use Rattle.refusal.specs.declared.Refusal.{Refusal}
use Rattle.curve.specs.declared.points.Point.{Point}
use Rattle.curve.specs.Curve.{no_point, span, reads, climbing}
use Rattle.network.specs.declared.tables.Road.{Road}
use Rattle.network.specs.Net.{Net}
use Rattle.network.specs.Kinds.{Kind, fault, meant}

-- what stands where no road does
abbrev pub no_road : Road
no_road = record { tail = 0; head = 0; first = 0; count = 0 }

-- the i-th point of a road
abbrev pub point_of : List Point → Road → ℕ → Point
point_of points road i = slice_index_or points (road.first + i) no_point

-- The rule of a road: its ends are nodes, and it has 1 to 48 points, which lie inside the table. Departures rise
-- from 0 to at most 100,000, arrivals never fall, and each point takes 1 to 10,000 minutes.
pub record KeepsRule (n : ℕ) (points : List Point) (road : Road) : Type 0 where
  pub tail_below : road.tail < n
  pub head_below : road.head < n
  pub inside : road.first + road.count ≤ length points
  pub some : 1 ≤ road.count
  pub many : road.count ≤ 48
  pub begins : (point_of points road 0).departure ≡ 0
  pub rises : (i : ℕ) → i + 1 < road.count → (point_of points road i).departure < (point_of points road (i + 1)).departure
  pub never_falls : (i : ℕ) → i + 1 < road.count → (point_of points road i).arrival ≤ (point_of points road (i + 1)).arrival
  pub early : (i : ℕ) → i < road.count → (point_of points road i).departure ≤ 100000
  pub takes_time : (i : ℕ) → i < road.count → (point_of points road i).departure < (point_of points road i).arrival
  pub not_long : (i : ℕ) → i < road.count → (point_of points road i).arrival ≤ (point_of points road i).departure + 10000

-- a road's points are a run inside the point table
abbrev pub run_of : List Point → Road → List Point
run_of points road = take road.count (drop road.first points)

-- The same as tests. A point alone: it sets out by 100,000 and takes 1 to 10,000 minutes
abbrev pub point_right : Point → Bool
point_right p = nat_le p.departure 100000 && (nat_lt p.departure p.arrival && nat_le p.arrival (p.departure + 10000))

abbrev pub points_right : List Point → Bool
points_right = list_all point_right

-- a run: departures rise from 0, arrivals never fall, and each point is right alone
abbrev pub run_right : List Point → Bool
run_right ps = (get_or ps 0 no_point).departure == 0 && (climbing ps && points_right ps)

-- a road: its ends, its points inside the table, how many they are, and the run
abbrev pub road_right : ℕ → List Point → Road → Bool
road_right n points road =
    nat_lt road.tail n && (nat_lt road.head n && (nat_le (road.first + road.count) (length points)
    && (nat_le 1 road.count && (nat_le road.count 48 && run_right (run_of points road)))))

-- the smallest time that passes at a point of a run
abbrev pub quickest : List Point → ℕ
quickest ps = unwrap_or (reduce min (map span ps)) 0

-- the kind of tabulated roads
abbrev pub road_kind : Kind Road Point
road_kind = record {
  no_road = no_road;
  tail = λ road. road.tail;
  head = λ road. road.head;
  right = road_right;
  least = λ points road. quickest (run_of points road);
  cross = λ points road. reads (run_of points road);
}

-- why tables are refused, if they are
abbrev pub tables_fault : ℕ → List Road → List Point → Option Refusal
tables_fault = fault road_kind

-- what tables mean
abbrev pub tabulated : ℕ → List Road → List Point → Net
tabulated = meant road_kind
