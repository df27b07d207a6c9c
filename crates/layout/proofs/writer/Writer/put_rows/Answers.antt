use Rattle.std.proofs.Common.{◌+◌, List, sym, subst, arith}
use Rattle.curve.specs.declared.points.Point.{Point}
use Rattle.layout.specs.Layout.{row_text}
use Rattle.layout.specs.Writing.{HasRoom, Wrote}
use Rattle.layout.proofs.Parts.{before, one, body_more, row_fits}
use Rattle.layout.proofs.Writing.{room_after, wrote_more}
use Rattle.layout.proofs.writer.Writer.put_rows.Goals as goal

pub put_row-requires : goal.put_row-requires
put_row-requires c =
    let cells = c.args.cells.now.numbers.now in
    let width = c.args.cells.now.width in
    let v = c.loop-v.v in
    let fits = row_fits cells width v c.args.cells.now.nodes c.loop-v-test.true in
    subst (λ (ps : List Point). HasRoom c.loop-v.self (row_text (v + 1) ps)) (sym c.pairs.ensures.takes_row)
    (room_after c.args.self.now c.loop-v.self (before cells width v) (one cells width v) (omega (arith, fits, c.requires)) c.loop-v.invariant)

pub loop-v-preserved : goal.loop-v-preserved
loop-v-preserved c =
    let cells = c.args.cells.now.numbers.now in
    let width = c.args.cells.now.width in
    let v = c.loop-v.v in
    let fits = row_fits cells width v c.args.cells.now.nodes c.loop-v-test.true in
    let wrote = subst (λ (ps : List Point). Wrote c.loop-v.self c.put_row.new.self (row_text (v + 1) ps)) c.pairs.ensures.takes_row c.put_row.ensures.wrote_row in
    rw (body_more cells width v) (wrote_more c.args.self.now c.loop-v.self (before cells width v) (one cells width v) (omega (arith, fits, c.requires)) c.loop-v.invariant _ wrote)
