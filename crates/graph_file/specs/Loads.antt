-- What loading a text gives: the answer, and what every place of the tables holds.
use Rattle.std.specs.Prelude.{◌≡◌, ℕ, zero, suc, ◌+◌, ◌-◌, ◌*◌, ◌/◌, ◌%◌, min, Bool, true, false, cond, ◌&&◌, List, get_or, Option, Some, None, Ok, Err, Result, nat_le, nat_lt, slice_index_or}
use Rattle.curve.specs.Curve.{no_point}
use Rattle.curve.specs.declared.points.Point.{Point}
use Rattle.graph_file.specs.Files.{files_in, no_arc}
use Rattle.graph_file.specs.declared.machine.Limits.{Limits}
use Rattle.graph_file.specs.declared.machine.Loaded.{Loaded}
use Rattle.graph_line.specs.declared.Arc.{Arc}
use Rattle.network.specs.Tables.{no_road}
use Rattle.network.specs.declared.tables.Road.{Road}
use Rattle.refusal.specs.declared.Refusal.{Refusal}
use Rattle.refusal.specs.declared.Refusal.TheVariants.{Figures, Table}
use Rattle.std.specs.List.{find, range_with_len}

-- n steps from i on: whether one of them falls
abbrev pub falls_from : (ℕ → ℕ) → ℕ → ℕ → Bool
falls_from a i zero = false
falls_from a i (suc n) = cond (nat_lt (a (i + 1)) (a i)) true (falls_from a (i + 1) n)

-- the arrival of a vehicle that enters road r at the minute of file i
abbrev pub arrival_of : ℕ → ℕ → List Arc → ℕ → ℕ → ℕ
arrival_of spacing roads arcs r i = i * spacing + (get_or arcs (i * roads + r) no_arc).weight

-- whether on road r a later vehicle overtakes
abbrev pub overtakes : ℕ → Loaded → List Arc → ℕ → Bool
overtakes spacing got arcs r = falls_from (arrival_of spacing got.roads arcs r) 0 (got.files - 1)

-- the lowest road that is overtaken
abbrev pub lowest_overtaken : ℕ → Loaded → List Arc → Option ℕ
lowest_overtaken spacing got arcs = find (overtakes spacing got arcs) (range_with_len 0 got.roads)

-- a road that is overtaken is refused
abbrev pub unless_found : Loaded × List Arc → Option ℕ → Result (Loaded × List Arc) Refusal
unless_found p None = Ok p
unless_found p (Some r) = Err (Table (Some r))

-- overtaking is judged after the whole text
abbrev pub unless_overtaken : ℕ → Result (Loaded × List Arc) Refusal → Result (Loaded × List Arc) Refusal
unless_overtaken spacing (Ok p) = unless_found p (lowest_overtaken spacing p.0 p.1)
unless_overtaken spacing (Err e) = Err e

-- at most 1,024 nodes, 4,096 roads, the quota and the places of the lent tables
abbrev pub limits_of : ℕ → ℕ → ℕ → Limits
limits_of quota roads points = record { nodes = min quota 1024; roads = min roads 4096; points = points }

-- the minutes between two files are judged first
abbrev pub load_of : Limits → ℕ → List ℕ → Result (Loaded × List Arc) Refusal
load_of lim spacing text = cond (nat_le 1 spacing && nat_le spacing 2000) (unless_overtaken spacing (files_in lim text)) (Err Figures)

-- what is answered
abbrev pub answer_of : Result (Loaded × List Arc) Refusal → Result Loaded Refusal
answer_of (Ok p) = Ok p.0
answer_of (Err e) = Err e

-- what stands at place r of the road table: nothing after a refusal, and nothing past the roads
abbrev pub road_at : Result (Loaded × List Arc) Refusal → ℕ → Road
road_at (Ok p) r =
    cond (nat_lt r p.0.roads)
    (record { tail = (get_or p.1 r no_arc).tail - 1; head = (get_or p.1 r no_arc).head - 1; first = r * p.0.files; count = p.0.files })
    no_road
road_at (Err e) r = no_road

-- what stands at place k of the point table, where road k / files has its point of file k % files
abbrev pub point_at : ℕ → Result (Loaded × List Arc) Refusal → ℕ → Point
point_at spacing (Ok p) k =
    cond (nat_lt k (p.0.roads * p.0.files))
    (record { departure = k % p.0.files * spacing; arrival = arrival_of spacing p.0.roads p.1 (k / p.0.files) (k % p.0.files) })
    no_point
point_at spacing (Err e) k = no_point

-- the tables hold what was loaded, and nothing else
pub record Holds (spacing : ℕ) (result : Result (Loaded × List Arc) Refusal) (roads : List Road) (points : List Point) : Type 0 where
  pub roads_are : (r : ℕ) → slice_index_or roads r no_road ≡ road_at result r
  pub points_are : (k : ℕ) → slice_index_or points k no_point ≡ point_at spacing result k
