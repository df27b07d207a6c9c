use Rattle.std.proofs.Common.{arith}
use Rattle.keyed.proofs.Waiting.{blank_tally, blank_once}
use Rattle.keyed.proofs.list.KeyedWorkList.clear.Goals as goal

pub invariant_of-self : goal.invariant_of-self
invariant_of-self c =
    let queue = c.clear.ensures in
    let off = c.in_ok-self.ensures.makes_or_refuses.3 in
    record { sound = queue.sound; space = omega (arith, queue.room, c.args.self.now.space); tally = blank_tally c.in_ok-self.field-0 _ off queue.empty; once = blank_once c.in_ok-self.field-0 _ off queue.empty }
