use Rattle.std.proofs.Common.{arith, refl}
use Rattle.worklist.specs.Lines.{around}
use Rattle.worklist.proofs.Rings.{around_none}
use Rattle.worklist.proofs.Marking.{nothing_once, size_none}
use Rattle.worklist.proofs.fifo.Fifo.idle.Goals as goal

pub invariant_of-result : goal.invariant_of-result
unfolding around
invariant_of-result c = record { sizes = (omega arith, refl); tally = size_none c.args.nodes c.requires; once = nothing_once c.args.nodes c.requires }

pub returns-clause-nothing_waits : goal.returns-clause-nothing_waits
returns-clause-nothing_waits c = around_none _ 0
