use Rattle.std.proofs.Common.{arith, refl}
use Rattle.keyed.proofs.Waiting.{same_list, take_below, take_tally, take_once}
use Rattle.keyed.proofs.list.KeyedWorkList.take.Goals as goal

pub returns-in_err-first : goal.returns-in_err-first
returns-in_err-first c = rw c.from_residual.ensures (record { takes = (c.in_err-first.ensures.loses_or_lacks.none, same_list c.args.self.now _ refl c.in_err-first.ensures.loses_or_lacks.unaltered) })

pub remove-requires : goal.remove-requires
remove-requires c = take_below c.args.self.now c.in_ok-first.first c.pop.new.self c.in_ok-first.ensures.taken_out.bag

pub invariant_of-self-2 : goal.invariant_of-self-2
invariant_of-self-2 c =
    let l = c.args.self.now in
    let x = c.in_ok-first.first in
    let bag = c.in_ok-first.ensures.taken_out.bag in
    record { sound = c.in_ok-first.ensures.sound l.sound; space = omega (arith, c.in_ok-first.ensures.room, l.space); tally = take_tally l x c.pop.new.self bag c.remove.new.self c.remove.ensures.taken_out; once = take_once l x c.pop.new.self bag c.remove.new.self c.remove.ensures.taken_out }

pub returns : goal.returns
returns c =
    let popped = c.in_ok-first.ensures.loses_or_lacks c.args.self.now.sound in
    record { takes = record { key = c.in_ok-first.first.key; bound = c.remove.ensures.taken_out.bound; first = popped.least; bag = popped.bag } }
