-- The weights brought to their places: road by road, each road's files in order.
use Rattle.std.specs.Prelude.{ℕ, ◌+◌, ◌-◌, ◌*◌, ◌/◌, ◌%◌, ◌≤◌, Bool, cond, List, length, get_or, nat_lt, slice_index_or, slice_range}
use Rattle.curve.specs.Curve.{no_point}
use Rattle.curve.specs.declared.points.Point.{Point}
use Rattle.graph_file.specs.Loads.{falls_from}
use Rattle.graph_file.specs.declared.machine.Loaded.{Loaded}
use Rattle.network.specs.Tables.{no_road}
use Rattle.network.specs.declared.tables.Road.{Road}

-- what was loaded has room in tables of so many roads and points, and its files are not far apart
pub record Placed (got : Loaded) (spacing roads points : ℕ) : Type 0 where
  pub some : 1 ≤ got.files
  pub many : got.files ≤ 48
  pub small : got.roads ≤ 4096
  pub table : got.roads ≤ roads
  pub room : got.roads * got.files ≤ points
  pub near : spacing ≤ 2000

-- place k is that of road k / files and file k % files
abbrev pub minute_at : ℕ → ℕ → ℕ → ℕ
minute_at files spacing k = k % files * spacing

-- where its weight waits, file by file
abbrev pub place_of : ℕ → ℕ → ℕ → ℕ
place_of roads files k = k % files * roads + k / files

-- arrivals written at the places below k, departures as they were
abbrev pub spread_to : ℕ → ℕ → ℕ → List Point → ℕ → ℕ → Point
spread_to roads files spacing ps k j =
    record {
      departure = (get_or ps j no_point).departure;
      arrival = cond (nat_lt j k) (minute_at files spacing j + (get_or ps (place_of roads files j) no_point).departure) (get_or ps j no_point).arrival;
    }

-- departures written at the places below k
abbrev pub stamped_to : ℕ → ℕ → List Point → ℕ → ℕ → Point
stamped_to files spacing ps k j =
    record { departure = cond (nat_lt j k) (minute_at files spacing j) (get_or ps j no_point).departure; arrival = (get_or ps j no_point).arrival }

-- runs given to the roads below k
abbrev pub runs_to : ℕ → List Road → ℕ → ℕ → Road
runs_to files rs k r =
    cond (nat_lt r k) (record { tail = (get_or rs r no_road).tail; head = (get_or rs r no_road).head; first = r * files; count = files }) (slice_index_or rs r no_road)

-- the points of road r, once they stand road by road
abbrev pub run_at : List Point → ℕ → ℕ → List Point
run_at points files r = slice_range points (r * files) (r * files + files)

-- whether arrivals fall within a run
abbrev pub falls_in : List Point → Bool
falls_in run = falls_from (λ i. (get_or run i no_point).arrival) 0 (length run - 1)
