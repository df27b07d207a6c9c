use Rattle.std.proofs.Common.{◌≡◌, ◌*◌, ◌≤◌, length}
use Rattle.layout.specs.Layout.{body_text}
use Rattle.layout.specs.Sheets.{rows}
use Rattle.layout.proofs.measure.rows_length.Given as goal

abbrev pub invariant-loop-v : goal.invariant-loop-v
invariant-loop-v l = (l.total ≡ length (body_text 1 (rows l.cells.numbers.now l.cells.width l.v))) × (l.total ≤ 48994 * l.v)
