use Rattle.std.proofs.Common.{arith}
use Rattle.graph_file.proofs.reader.Reader.take.Goals as goal
use Rattle.std.proofs.lemmas.Grind.{common_steps}

pub invariant_of-self-in-Some-Problem : goal.invariant_of-self-in-Some-Problem
invariant_of-self-in-Some-Problem c =
    let s = c.args.self.now.within c.in-Some-Problem.progress c.in-Some-Problem.is-0 in
    record { fit = c.args.self.now.fit; within = λ p e. grind (arith, common_steps) }

pub take_arc-requires : goal.take_arc-requires
take_arc-requires c = c.args.self.now.within c.in-Some-Crossing.progress c.in-Some-Crossing.is-0
