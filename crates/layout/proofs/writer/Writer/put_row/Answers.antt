use Rattle.std.proofs.Common.{map, take, arith}
use Rattle.rows.specs.Rows.{point_of}
use Rattle.layout.specs.Layout.{line_text, row_text}
use Rattle.layout.proofs.Parts.{line_fits, row_more}
use Rattle.layout.proofs.Writing.{room_after, wrote_more}
use Rattle.layout.proofs.writer.Writer.put_row.Goals as goal

pub put_line-requires : goal.put_line-requires
put_line-requires c =
    let fits = line_fits c.args.node c.args.pairs.now c.loop-pair.pair-index c.point_of.result c.point_of.ensures.departure_then_arrival c.loop-pair-test.true in
    room_after c.args.self.now c.loop-pair.self (row_text c.args.node (take c.loop-pair.pair-index (map point_of c.args.pairs.now))) (line_text c.args.node c.point_of.result) (omega (arith, fits, c.requires)) c.loop-pair.invariant

pub loop-pair-preserved : goal.loop-pair-preserved
loop-pair-preserved c =
    let fits = line_fits c.args.node c.args.pairs.now c.loop-pair.pair-index c.point_of.result c.point_of.ensures.departure_then_arrival c.loop-pair-test.true in
    rw (row_more c.args.node c.args.pairs.now c.loop-pair.pair-index c.point_of.result c.point_of.ensures.departure_then_arrival c.loop-pair-test.true)
    (wrote_more c.args.self.now c.loop-pair.self (row_text c.args.node (take c.loop-pair.pair-index (map point_of c.args.pairs.now))) (line_text c.args.node c.point_of.result) (omega (arith, fits, c.requires)) c.loop-pair.invariant _ c.put_line.ensures.wrote_line)
