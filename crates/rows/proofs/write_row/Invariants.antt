use Rattle.std.proofs.Common.{◌≡◌, ◌+◌, ◌*◌, ◌∷◌, length, take}
use Rattle.rows.specs.Rows.{flat}
use Rattle.rows.proofs.write_row.Given as goal

abbrev pub invariant-loop-index : goal.invariant-loop-index
invariant-loop-index l = take (2 * l.index + 1) l.row ≡ length l.label ∷ flat (take l.index l.label)
