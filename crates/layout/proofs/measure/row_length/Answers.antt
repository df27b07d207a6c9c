use Rattle.std.proofs.Common.{length, ap, ◌∙◌, arith}
use Rattle.std.proofs.lemmas.List.{length-append}
use Rattle.layout.specs.Layout.{line_text, row_text}
use Rattle.layout.proofs.Parts.{row_more}
use Rattle.layout.proofs.measure.row_length.Goals as goal

pub loop-pair-preserved : goal.loop-pair-preserved
loop-pair-preserved c =
    let more = row_more c.args.node c.args.pairs.now c.loop-pair.pair-index c.point_of.result c.point_of.ensures.departure_then_arrival c.loop-pair-test.true in
    let long = ap length more ∙ length-append (row_text c.args.node _) (line_text c.args.node c.point_of.result) in
    (omega (arith, long), omega arith)
