use Rattle.layout.specs.Layout.{body_text}
use Rattle.layout.specs.Sheets.{rows}
use Rattle.layout.specs.Writing.{Wrote}
use Rattle.layout.proofs.writer.Writer.put_rows.Given as goal

abbrev pub invariant-loop-v : goal.invariant-loop-v
invariant-loop-v l = Wrote l.initial.self l.self (body_text 1 (rows l.cells.numbers.now l.cells.width l.v))
