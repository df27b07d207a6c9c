use Rattle.std.proofs.Common.{◌≡◌, ◌+◌, refl, arith}
use Rattle.worklist.proofs.Waiting.{none_left, take_below, take_size, take_once, take_line}
use Rattle.worklist.proofs.fifo.FifoWorkList.take.Goals as goal

pub returns-in_err-rest : goal.returns-in_err-rest
returns-in_err-rest c = rw c.from_residual.ensures (record { takes = (none_left c.args.self.now (omega (arith, c.in_err-rest.ensures)), refl) })

pub remove-requires : goal.remove-requires
remove-requires c = take_below c.args.self.now c.in_ok-rest.rest (omega (arith, c.in_ok-rest.ensures))

pub invariant_of-self : goal.invariant_of-self
invariant_of-self c =
    let l = c.args.self.now in
    let rest = c.in_ok-rest.rest in
    let one : rest + 1 ≡ l.count = omega (arith, c.in_ok-rest.ensures) in
    record { sizes = (omega arith, l.sizes.1); tally = take_size l rest one c.remove.new.self c.remove.ensures.taken_out; once = take_once l rest one c.remove.new.self c.remove.ensures.taken_out }

pub returns : goal.returns
returns c = record { takes = (c.remove.ensures.taken_out.bound, take_line c.args.self.now c.in_ok-rest.rest (omega (arith, c.in_ok-rest.ensures))) }
