-- The tables in their last form.
use Rattle.std.proofs.Common.{◌≡◌, ℕ, zero, suc, ◌+◌, ◌-◌, ◌*◌, ◌/◌, ◌%◌, ◌≤◌, cond, ltb, List, length, get_or, take, Some, Ok, ap, arith}
use Rattle.graph_file.specs.Files.{ends_of, no_arc}
use Rattle.graph_file.specs.Placing.{place_of, runs_to, spread_to, stamped_to}
use Rattle.graph_file.specs.Loads.{Holds, arrival_of}
use Rattle.graph_file.specs.Gathering.{Kept, closed, weight_of}
use Rattle.graph_file.specs.declared.machine.Loaded.{Loaded}
use Rattle.curve.specs.Curve.{no_point}
use Rattle.curve.specs.declared.points.Point.{Point}
use Rattle.network.specs.Tables.{no_road}
use Rattle.network.specs.declared.tables.Road.{Road}
use Rattle.graph_line.specs.declared.Arc.{Arc}
use Rattle.std.proofs.lemmas.List.{get_or_past, get_or-take, length-take}
use Rattle.std.proofs.lemmas.Bool.Decides.{nat_tests}

abbrev point : ℕ → ℕ → Point
point d a = record { departure = d; arrival = a }

-- all files are full
pub all_arcs : (got : Loaded) (arcs : List Arc) (rs : List Road) (ps : List Point) → 1 ≤ got.files → Kept (Some (closed got)) arcs rs ps → length arcs ≡ got.roads * got.files
all_arcs got arcs rs ps s kept = full got.roads got.files (length arcs) s kept.count
  where
    full : (roads files n : ℕ) → 1 ≤ files → n ≡ (files - 1) * roads + roads → n ≡ roads * files
    full roads zero n s e = omega arith
    full roads (suc g) n s e = let p : suc g - 1 ≡ g = omega arith in omega (arith, e, ap (λ x. x * roads) p)

pub points_laid : (roads files spacing : ℕ) (arcs : List Arc) (ps os qs : List Point) → length arcs ≡ roads * files → ((k : ℕ) → get_or ps k no_point ≡ weight_of (get_or arcs k no_arc)) → ((k : ℕ) → get_or os k no_point ≡ spread_to roads files spacing ps (roads * files) k) → ((k : ℕ) → get_or qs k no_point ≡ stamped_to files spacing os (roads * files) k) → (k : ℕ) → get_or qs k no_point ≡ cond (ltb k (roads * files)) (point (k % files * spacing) (arrival_of spacing roads arcs (k / files) (k % files))) no_point
points_laid roads files spacing arcs ps os qs n w f g k =
    let a = f k in
    let b = g k in
    let c = w k in
    let d = w (place_of roads files k) in
    let e = get_or_past arcs k no_arc in
    grind (arith, nat_tests)

-- a road below the end, and a place past it
abbrev run : ℕ → ℕ → Road → Road
run r files ends = record { tail = ends.tail; head = ends.head; first = r * files; count = files }

pub roads_laid : (roads files : ℕ) (arcs : List Arc) (rs qs : List Road) → ((k : ℕ) → get_or rs k no_road ≡ ends_of (get_or (take roads arcs) k no_arc)) → ((r : ℕ) → get_or qs r no_road ≡ runs_to files rs roads r) → (r : ℕ) → get_or qs r no_road ≡ cond (ltb r roads) (run r files (ends_of (get_or arcs r no_arc))) no_road
roads_laid roads files arcs rs qs w g r =
    let a = g r in
    let b = w r in
    let c = get_or-take roads arcs r no_arc in
    let d = get_or_past (take roads arcs) r no_arc in
    let e = length-take roads arcs in
    grind (arith, nat_tests)

pub laid : (got : Loaded) (spacing : ℕ) (arcs : List Arc) (rs qs : List Road) (ps os ts : List Point) → 1 ≤ got.files → ((k : ℕ) → get_or os k no_point ≡ spread_to got.roads got.files spacing ps (got.roads * got.files) k) → ((k : ℕ) → get_or ts k no_point ≡ stamped_to got.files spacing os (got.roads * got.files) k) → ((r : ℕ) → get_or qs r no_road ≡ runs_to got.files rs got.roads r) → Kept (Some (closed got)) arcs rs ps → Holds spacing (Ok (got, arcs)) qs ts
laid got spacing arcs rs qs ps os ts s f g h kept =
    record {
      roads_are = roads_laid got.roads got.files arcs rs qs kept.ends h;
      points_are = points_laid got.roads got.files spacing arcs ps os ts (all_arcs got arcs rs ps s kept) kept.weights f g;
    }
