-- From parts that fit to a sheet that is ready for its turns, and back.
use Rattle.std.proofs.Common.{◌≡◌, ℕ, List}
use Rattle.network.specs.Net.{Net}
use Rattle.runs.specs.declared.Figures.{Figures}
use Rattle.runs.specs.Figured.{Right}
use Rattle.runs.specs.Ready.{Ready}
use Rattle.sheet.specs.Judging.{Fit}

pub readied : {net : Net} {f : Figures} {rows marks : List ℕ} {limit : ℕ} → Right f → Fit net f rows marks limit → Ready net f rows
readied ok fit = record {
  right = ok;
  room = fit.roomy.rows;
  nodes = fit.agree.nodes;
  roads = fit.agree.roads;
  laid = record { holding = fit.formed.holding; origin_row = fit.formed.origin_row; bare = fit.formed.bare };
}

pub fitted : {net : Net} {f : Figures} {rows rows' marks : List ℕ} {limit limit' : ℕ} → Fit net f rows marks limit → limit' ≡ f.nodes → Ready net f rows' → Fit net f rows' marks limit'
fitted fit bound ready = record {
  roomy = record { rows = ready.room; marks = fit.roomy.marks };
  agree = record { nodes = ready.nodes; roads = ready.roads; bound = bound };
  formed = record { marked = fit.formed.marked; holding = ready.laid.holding; origin_row = ready.laid.origin_row; bare = ready.laid.bare };
}
