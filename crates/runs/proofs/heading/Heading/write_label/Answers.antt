use Rattle.std.proofs.Common.{◌≡◌, ◌-◌, length, take, drop, arith, length-drop}
use Rattle.std.proofs.lemmas.List.{length-take-le}
use Rattle.rows.specs.Rows.{width}
use Rattle.runs.proofs.Rows.{room_for}
use Rattle.runs.proofs.Writing.{rewritten}
use Rattle.runs.proofs.heading.Heading.write_label.Goals as goal

pub returns : goal.returns
returns c =
    let f = c.args.self.now.figures in
    let range = c.row_range.result in
    let wide : range.end - range.start ≡ width f.places = omega (arith, c.row_range.ensures.start_is, c.row_range.ensures.end_is) in
    let fit = room_for f.places f.nodes c.args.node (length c.args.rows.now) c.requires.room c.requires.node in
    let part : length (take (range.end - range.start) (drop range.start c.args.rows.now)) ≡ range.end - range.start =
    length-take-le (range.end - range.start) (drop range.start c.args.rows.now) (simp length-drop (omega (arith, fit, c.row_range.ensures.start_is, wide))) in
    record {
      own_row_alone = rewritten f c.args.rows.now c.args.node range.start _ _ c.write_row.new.row c.row_range.ensures.start_is wide c.requires.room c.requires.node
          (omega (arith, c.write_row.auto.row, part)) (c.write_row.ensures.label_laid_out f.places (omega (arith, part, wide)));
    }
