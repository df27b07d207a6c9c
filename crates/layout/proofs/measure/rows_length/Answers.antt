use Rattle.std.proofs.Common.{◌+◌, length, ap, ◌∙◌, arith}
use Rattle.std.proofs.lemmas.List.{length-append}
use Rattle.layout.specs.Layout.{row_text}
use Rattle.layout.proofs.Parts.{before, one, body_more}
use Rattle.layout.proofs.measure.rows_length.Goals as goal

pub loop-v-preserved : goal.loop-v-preserved
loop-v-preserved c =
    let cells = c.args.cells.now.numbers.now in
    let width = c.args.cells.now.width in
    let v = c.loop-v.v in
    let long = ap length (body_more cells width v) ∙ length-append (before cells width v) (one cells width v) in
    let row = ap (λ ps. length (row_text (v + 1) ps)) c.pairs.ensures.takes_row in
    (omega (arith, long, row), omega arith)
