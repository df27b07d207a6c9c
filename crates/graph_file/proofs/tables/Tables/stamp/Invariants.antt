use Rattle.std.proofs.Common.{◌≡◌, ℕ, get_or}
use Rattle.graph_file.proofs.tables.Tables.stamp.Given as goal
use Rattle.curve.specs.Curve.{no_point}
use Rattle.graph_file.specs.Placing.{stamped_to}

abbrev pub invariant-loop-k : goal.invariant-loop-k
invariant-loop-k l = (j : ℕ) → get_or l.point-items j no_point ≡ stamped_to l.files l.fn.self.spacing l.initial.point-items l.k j
