use Rattle.std.proofs.Common.{◌≡◌, ◌*◌, ◌≤◌, map, length, take}
use Rattle.rows.specs.Rows.{point_of}
use Rattle.layout.specs.Layout.{row_text}
use Rattle.layout.proofs.measure.row_length.Given as goal

abbrev pub invariant-loop-pair : goal.invariant-loop-pair
invariant-loop-pair l = (l.total ≡ length (row_text l.node (take l.pair-index (map point_of l.pairs)))) × (l.total ≤ 34 * l.pair-index)
