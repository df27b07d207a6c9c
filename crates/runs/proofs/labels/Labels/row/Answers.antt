use Rattle.std.proofs.Common.{length, ap, ◌∙◌, arith}
use Rattle.runs.proofs.Rows.{room_for, row_length, row_part}
use Rattle.runs.proofs.labels.Labels.row.Goals as goal

pub slice_bounds-result-end : goal.slice_bounds-result-end
slice_bounds-result-end c =
    let s = c.args.self.now in
    omega (arith, room_for s.heading.figures.places s.heading.figures.nodes c.args.node (length s.rows.now) s.room c.requires.node, c.row_range.ensures.end_is)

pub returns : goal.returns
returns c =
    let s = c.args.self.now in
    let is = row_part s.heading.figures.places c.args.node c.row_range.result.start _ s.rows.now c.row_range.ensures.start_is (omega (arith, c.row_range.ensures.start_is, c.row_range.ensures.end_is)) in
    record { row_is = is; whole = ap length is ∙ row_length s.heading.figures.places s.heading.figures.nodes c.args.node s.rows.now s.room c.requires.node }
