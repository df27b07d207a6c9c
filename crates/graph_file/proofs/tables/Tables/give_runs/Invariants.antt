use Rattle.std.proofs.Common.{◌≡◌, ℕ, get_or}
use Rattle.graph_file.proofs.tables.Tables.give_runs.Given as goal
use Rattle.graph_file.specs.Placing.{runs_to}
use Rattle.network.specs.Tables.{no_road}

abbrev pub invariant-loop-r : goal.invariant-loop-r
invariant-loop-r l = (j : ℕ) → get_or l.road-items j no_road ≡ runs_to l.files l.initial.road-items l.r j
