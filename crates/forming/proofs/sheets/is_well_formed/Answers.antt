use Rattle.std.proofs.Common.{◌≡◌, ℕ, ◌+◌, ◌-◌, ◌*◌, List, sym, subst, arith}
use Rattle.runs.specs.declared.Figures.{Figures}
use Rattle.runs.specs.Formed.{labels_below, latest}
use Rattle.forming.specs.Parts.{Holding}
use Rattle.forming.proofs.Counting.{formed, begun}
use Rattle.forming.proofs.Whens.{when_map}
use Rattle.forming.proofs.sheets.is_well_formed.Goals as goal
use Rattle.forming.proofs.sheets.is_well_formed.Goals.{then-not-are_marks-via-then-not-are_marks, then-not-are_marks-via-else-not-are_marks+then-not-are_rows}

-- the limit that is computed from the labels counted
limit_is : (f : Figures) (rows : List ℕ) (window labels less : ℕ) → window ≡ f.window → labels ≡ labels_below f rows f.nodes → less ≡ labels - 1 → window + 20000 * less ≡ latest f rows
limit_is f rows window labels less held counted lowered = omega arith

pub returns-then-not-are_marks : goal.returns-then-not-are_marks
returns-then-not-are_marks c =
    let f = c.args.labels.now.heading.figures in
    let rows = c.args.labels.now.rows.now in
    let limit = limit_is f rows _ _ _ c.window.ensures.window_held c.count_labels-count.ensures.labels_counted c.saturating_sub.ensures in
    record {
      well_formed_or_not = λ h. elim c.then-not-are_marks.branch [
        | then-not-are_marks-via-then-not-are_marks w ↦ w.if-not-are_marks.ensures.marked_or_not h.marked
        | then-not-are_marks-via-else-not-are_marks+then-not-are_rows w ↦ w.if-not-are_rows.ensures.rows_or_not (subst (λ (x : ℕ). Holding f x rows) (sym limit) h.holding)
      ];
    }

pub returns : goal.returns
returns c =
    let f = c.args.labels.now.heading.figures in
    let rows = c.args.labels.now.rows.now in
    let marks = c.args.marks.now in
    let limit = limit_is f rows _ _ _ c.window.ensures.window_held c.count_labels-count.ensures.labels_counted c.saturating_sub.ensures in
    record {
      well_formed_or_not = when_map c.begins.result
          (λ b. formed f rows marks c.if-not-are_marks.ensures.marked_or_not (subst (λ (x : ℕ). Holding f x rows) limit c.if-not-are_rows.ensures.rows_or_not) b)
          (λ none h. none (begun f rows marks h))
          c.begins.ensures.begun_or_not;
    }
