use Rattle.std.proofs.Common.{arith}
use Rattle.graph_file.proofs.reader.Reader.file_of.Goals as goal
use Rattle.std.proofs.lemmas.Grind.{common_steps}

pub overflow_add-result : goal.overflow_add-result
overflow_add-result c = let s = c.args.self.now.within c.in-Some-Problem.progress c.in-Some-Problem.is-0 in omega arith

pub returns-in-Some-default : goal.returns-in-Some-default
returns-in-Some-default c = let s = c.args.self.now.within c.in-Some-default.progress c.in-Some-default.is-0 in grind (arith, common_steps)
