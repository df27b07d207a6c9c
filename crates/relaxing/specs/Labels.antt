-- A node gets the label between two curves.
use Rattle.std.specs.Prelude.{ℕ, ◌≤◌, List, length}
use Rattle.corridor.specs.Curves.{Label}
use Rattle.curve.specs.declared.points.Point.{Point}
use Rattle.runs.specs.declared.Figures.{Figures}
use Rattle.runs.specs.Ready.{Rewritten}

-- node v has the label between ls and us in its own row alone
pub record Relabelled (f : Figures) (rows : List ℕ) (v : ℕ) (ls us : List ℕ) (rows' : List ℕ) : Type 0 where
  pub new : List Point
  pub label : Label ls us new
  pub fits : length new ≤ f.places
  pub rewritten : Rewritten f rows v new rows'
