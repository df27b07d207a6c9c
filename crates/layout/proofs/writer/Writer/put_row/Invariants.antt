use Rattle.std.proofs.Common.{map, take}
use Rattle.rows.specs.Rows.{point_of}
use Rattle.layout.specs.Layout.{row_text}
use Rattle.layout.specs.Writing.{Wrote}
use Rattle.layout.proofs.writer.Writer.put_row.Given as goal

abbrev pub invariant-loop-pair : goal.invariant-loop-pair
invariant-loop-pair l = Wrote l.initial.self l.self (row_text l.node (take l.pair-index (map point_of l.pairs)))
