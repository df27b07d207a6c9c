-- What is loaded, and which road is named where one is overtaken.
use Rattle.std.specs.Prelude.{◌≡◌, ℕ, ◌+◌, ◌*◌, ◌<◌, ◌≤◌, List, get_or, Some, Ok, Err, slice_index_or}
use Rattle.curve.specs.Curve.{no_point}
use Rattle.curve.specs.declared.points.Point.{Point}
use Rattle.graph_file.specs.Files.{files_in, no_arc}
use Rattle.graph_file.specs.Loads.{Holds, arrival_of, load_of}
use Rattle.graph_file.specs.declared.machine.Limits.{Limits}
use Rattle.graph_file.specs.declared.machine.Loaded.{Loaded}
use Rattle.graph_laws.specs.Grammar.{GraphFiles, all_arcs}
use Rattle.graph_line.specs.Statements.{statements}
use Rattle.graph_line.specs.declared.Arc.{Arc}
use Rattle.network.specs.declared.tables.Road.{Road}
use Rattle.refusal.specs.declared.Refusal.TheVariants.{Table}

-- who enters road r at the minute of a later file is never there earlier
abbrev pub Orderly : ℕ → Loaded → List Arc → ℕ → Type 0
Orderly spacing got arcs r =
    (i : ℕ) → i + 1 < got.files → arrival_of spacing got.roads arcs r i ≤ arrival_of spacing got.roads arcs r (i + 1)

-- who enters road r at the minute of some later file is there earlier
abbrev pub Overtaken : ℕ → Loaded → List Arc → ℕ → Type 0
Overtaken spacing got arcs r =
    (i : ℕ) × (i + 1 < got.files) × (arrival_of spacing got.roads arcs r (i + 1) < arrival_of spacing got.roads arcs r i)

-- graph files from 1 to 2,000 minutes apart, in which no road is overtaken
pub record Loadable (lim : Limits) (spacing : ℕ) (text : List ℕ) (got : Loaded) (first : List Arc) (more : List (List Arc)) : Type 0 where
  pub apart : 1 ≤ spacing
  pub near : spacing ≤ 2000
  pub files : GraphFiles lim (statements text) got first more
  pub orderly : (r : ℕ) → r < got.roads → Orderly spacing got (all_arcs first more) r

-- these are loaded
abbrev pub LoadsGraphFiles : Type 0
LoadsGraphFiles =
    (lim : Limits) (spacing : ℕ) (text : List ℕ) (got : Loaded) (first : List Arc) (more : List (List Arc)) → Loadable lim spacing text got first more → load_of lim spacing text ≡ Ok (got, all_arcs first more)

-- and nothing else is
abbrev pub LoadsNothingElse : Type 0
LoadsNothingElse =
    (lim : Limits) (spacing : ℕ) (text : List ℕ) (got : Loaded) (arcs : List Arc) → load_of lim spacing text ≡ Ok (got, arcs) → (first : List Arc) × (more : List (List Arc)) × Loadable lim spacing text got first more × (arcs ≡ all_arcs first more)

-- a road that is refused is overtaken, and no lower road is
pub record Lowest (spacing : ℕ) (got : Loaded) (arcs : List Arc) (r : ℕ) : Type 0 where
  pub below : r < got.roads
  pub overtaken : Overtaken spacing got arcs r
  pub lower : (q : ℕ) → q < r → Orderly spacing got arcs q

abbrev pub NamesLowestRoad : Type 0
NamesLowestRoad =
    (lim : Limits) (spacing : ℕ) (text : List ℕ) (r : ℕ) → load_of lim spacing text ≡ Err (Table (Some r)) → (got : Loaded) × (arcs : List Arc) × (files_in lim text ≡ Ok (got, arcs)) × Lowest spacing got arcs r

-- road r has its point of file i at r × files + i
abbrev pub PointsInRoadOrder : Type 0
PointsInRoadOrder =
    (spacing : ℕ) (got : Loaded) (arcs : List Arc) (roads : List Road) (points : List Point) → Holds spacing (Ok (got, arcs)) roads points → (r i : ℕ) → r < got.roads → i < got.files → slice_index_or points (r * got.files + i) no_point ≡ record { departure = i * spacing; arrival = i * spacing + (get_or arcs (i * got.roads + r) no_arc).weight }
