-- What the lent tables hold while the lines are read.
use Rattle.std.specs.Prelude.{◌≡◌, ℕ, ◌+◌, ◌-◌, ◌*◌, ◌<◌, ◌≤◌, true, cond, List, length, get_or, Option, Some, None, Ok, Result, ◌==◌, slice_index_or, slice_set}
use Rattle.curve.specs.Curve.{no_point}
use Rattle.curve.specs.declared.points.Point.{Point}
use Rattle.graph_file.specs.Files.{done_of, ends_of, files_in, first_file, judged, no_arc}
use Rattle.graph_file.specs.Steps.{Sized, arc_fits, step}
use Rattle.graph_file.specs.declared.machine.Fault.{Fault}
use Rattle.graph_file.specs.declared.machine.Limits.{Limits}
use Rattle.graph_file.specs.declared.machine.Loaded.{Loaded}
use Rattle.graph_file.specs.declared.machine.Progress.{Progress}
use Rattle.graph_line.specs.Statements.{statements}
use Rattle.graph_line.specs.declared.Arc.{Arc}
use Rattle.graph_line.specs.declared.Statement.{Statement}
use Rattle.graph_line.specs.declared.Statement.TheVariants.{Comment, Problem, Crossing, BrokenProblem, Broken}
use Rattle.network.specs.Tables.{no_road}
use Rattle.network.specs.declared.tables.Road.{Road}

-- a weight that waits for its place: it stands as a departure
abbrev pub weight_of : Arc → Point
weight_of a = record { departure = a.weight; arrival = 0 }

-- where the next arc's weight waits: after those of the files before, and of its own file
abbrev pub arc_place : Progress → ℕ
arc_place p = (p.loaded.files - 1) * p.loaded.roads + p.done

-- how many arcs were read
abbrev pub read_of : Option Progress → ℕ
read_of None = 0
read_of (Some p) = arc_place p

abbrev pub nodes_of : Option Progress → ℕ
nodes_of None = 0
nodes_of (Some p) = p.loaded.nodes

-- the tables after a line that was right
abbrev pub roads_after : Option Progress → Statement → List Road → List Road
roads_after None said rs = rs
roads_after (Some p) Comment rs = rs
roads_after (Some p) (Problem n m) rs = rs
roads_after (Some p) (Crossing a) rs = cond (p.loaded.files == 1) (slice_set rs p.done (ends_of a)) rs
roads_after (Some p) BrokenProblem rs = rs
roads_after (Some p) Broken rs = rs

abbrev pub points_after : Option Progress → Statement → List Point → List Point
points_after None said ps = ps
points_after (Some p) Comment ps = ps
points_after (Some p) (Problem n m) ps = ps
points_after (Some p) (Crossing a) ps = slice_set ps (arc_place p) (weight_of a)
points_after (Some p) BrokenProblem ps = ps
points_after (Some p) Broken ps = ps

-- a line judged beside the road that stands at the place of the next arc
abbrev pub step_in : Limits → Option Progress → List Road → Statement → Result (Option Progress) Fault
step_in lim s roads said = step lim s (slice_index_or roads (done_of s) no_road) said

-- a line that was right is taken: what then has come, and what the tables then hold
pub record Takes (lim : Limits) (said : Statement) (s t : Option Progress) (rs qs : List Road) (ps os : List Point) : Type 0 where
  pub progress : step_in lim s rs said ≡ Ok t
  pub roads : qs ≡ roads_after s said rs
  pub points : os ≡ points_after s said ps

-- the limits are those of the rules and of the lent tables, or lower
pub record Fit (lim : Limits) (roads points : ℕ) : Type 0 where
  pub nodes : lim.nodes ≤ 1024
  pub most : lim.roads ≤ 4096
  pub table : lim.roads ≤ roads
  pub room : lim.points ≤ points

-- the ends of the first file's arcs, all weights one after the other, and nothing else
pub record Kept (s : Option Progress) (arcs : List Arc) (roads : List Road) (points : List Point) : Type 0 where
  pub count : length arcs ≡ read_of s
  pub ends : (k : ℕ) → slice_index_or roads k no_road ≡ ends_of (slice_index_or (first_file s arcs) k no_arc)
  pub weights : (k : ℕ) → slice_index_or points k no_point ≡ weight_of (slice_index_or arcs k no_arc)
  pub light : (k : ℕ) → (get_or arcs k no_arc).weight ≤ 10000
  pub allowed : (k : ℕ) → k < length arcs → arc_fits (nodes_of s) (slice_index_or arcs k no_arc) ≡ true

-- nothing stands in the tables
pub record Blank (roads : List Road) (points : List Point) : Type 0 where
  pub roads_are : (k : ℕ) → slice_index_or roads k no_road ≡ no_road
  pub points_are : (k : ℕ) → slice_index_or points k no_point ≡ no_point

-- the progress at the end of the last file
abbrev pub closed : Loaded → Progress
closed got = record { loaded = got; done = got.roads }

-- all files were right, and the tables keep their arcs
pub record Gathered (lim : Limits) (text : List ℕ) (got : Loaded) (roads : List Road) (points : List Point) : Type 0 where
  pub arcs : List Arc
  pub said : files_in lim text ≡ Ok (got, arcs)
  pub sized : Sized lim (closed got)
  pub kept : Kept (Some (closed got)) arcs roads points

-- the lines so far were right, the tables keep their arcs, and the rest of the text decides
pub record Reading (lim : Limits) (text : List ℕ) (line : ℕ) (rest : List ℕ) (s : Option Progress) (roads : List Road) (points : List Point) : Type 0 where
  pub arcs : List Arc
  pub kept : Kept s arcs roads points
  pub decides : judged lim s arcs line (statements rest) ≡ files_in lim text
