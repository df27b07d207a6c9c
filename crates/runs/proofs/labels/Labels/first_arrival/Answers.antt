use Rattle.std.proofs.Common.{ℕ, List, sym, ap, ◌∙◌, arith}
use Rattle.curve.specs.Curve.{reads}
use Rattle.rows.specs.Rows.{points}
use Rattle.runs.specs.Figured.{right_tells}
use Rattle.runs.proofs.Reading.{label_first, row_shows}
use Rattle.runs.proofs.Rows.{first_point}
use Rattle.runs.proofs.labels.Labels.first_arrival.Goals as goal

pub bounds-row-2 : goal.bounds-row-2
bounds-row-2 c =
    let h = c.args.self.now.heading in
    omega (arith, c.row.ensures.whole, (right_tells h.figures h.lawful).places)

pub returns : goal.returns
returns c =
    let s = c.args.self.now in
    let xs = c.row.result.now in
    let shows = row_shows s.heading.figures s.rows.now c.requires.laid c.args.node c.requires.node c.requires.labelled xs c.row.ensures.row_is in
    record {
      first_arrival = sym (first_point xs (omega (arith, shows.some))) ∙ sym (label_first s.heading.figures.window _ _ shows.holds_label) ∙ ap (λ (ys : List ℕ). reads (points ys) 0) c.row.ensures.row_is;
    }
