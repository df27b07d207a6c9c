-- Tables whose roads keep the rule of tabulated roads.
use Rattle.std.specs.Prelude.{◌≡◌, ℕ, ◌<◌, ◌≤◌, List, length, Ok, slice_index_or}
use Rattle.curve.specs.declared.points.Point.{Point}
use Rattle.graph_file.specs.Loads.{Holds, load_of}
use Rattle.graph_file.specs.declared.machine.Limits.{Limits}
use Rattle.graph_file.specs.declared.machine.Loaded.{Loaded}
use Rattle.graph_line.specs.declared.Arc.{Arc}
use Rattle.network.specs.Tables.{KeepsRule, no_road}
use Rattle.network.specs.declared.tables.Road.{Road}

-- a network's size, and every road by the rule
pub record NetworkTables (nodes roads : ℕ) (table : List Road) (points : List Point) : Type 0 where
  pub one_node : 1 ≤ nodes
  pub most_nodes : nodes ≤ 1024
  pub most_roads : roads ≤ 4096
  pub roads_inside : roads ≤ length table
  pub by_rule : (r : ℕ) → r < roads → KeepsRule nodes points (slice_index_or table r no_road)

-- the text was right, and the tables hold it
pub record Laid (lim : Limits) (spacing : ℕ) (text : List ℕ) (got : Loaded) (table : List Road) (points : List Point) : Type 0 where
  pub arcs : List Arc
  pub said : load_of lim spacing text ≡ Ok (got, arcs)
  pub holds : Holds spacing (Ok (got, arcs)) table points
  pub keeps : NetworkTables got.nodes got.roads table points
