use Rattle.std.proofs.Common.{◌≡◌, map, take, drop}
use Rattle.rows.specs.Rows.{point_of}
use Rattle.rows.proofs.read_row.Given as goal

abbrev pub invariant-loop-index : goal.invariant-loop-index
invariant-loop-index l = (take l.index l.out ≡ map point_of (take l.index l.pairs)) × (drop l.index l.out ≡ drop l.index l.initial.out)
