use Rattle.std.proofs.Common.{ℕ, List, sym, ap, ◌∙◌}
use Rattle.rows.specs.Rows.{points}
use Rattle.runs.specs.Sheet.{any}
use Rattle.runs.proofs.Rows.{any_points}
use Rattle.runs.proofs.labels.Labels.has.Goals as goal

pub returns : goal.returns
returns c = record { whether_labelled = sym (any_points c.row.result.now) ∙ ap (λ (xs : List ℕ). any (points xs)) c.row.ensures.row_is }
