use Rattle.std.proofs.Common.{arith}
use Rattle.keyed.proofs.Waiting.{blank_tally, blank_once}
use Rattle.keyed.proofs.list.Keyed.new.Goals as goal

pub invariant_of-result : goal.invariant_of-result
invariant_of-result c =
    let queue = c.new-2.ensures in
    record { sound = queue.sound; space = omega (arith, queue.room); tally = blank_tally c.new.result _ c.new.ensures.empty queue.empty; once = blank_once c.new.result _ c.new.ensures.empty queue.empty }
