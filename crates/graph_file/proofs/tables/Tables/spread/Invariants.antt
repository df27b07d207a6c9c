use Rattle.std.proofs.Common.{◌≡◌, ℕ, get_or}
use Rattle.graph_file.proofs.tables.Tables.spread.Given as goal
use Rattle.curve.specs.Curve.{no_point}
use Rattle.graph_file.specs.Placing.{spread_to}

abbrev pub invariant-loop-k : goal.invariant-loop-k
invariant-loop-k l = (j : ℕ) → get_or l.points j no_point ≡ spread_to l.roads l.files l.fn.self.spacing l.initial.points l.k j
