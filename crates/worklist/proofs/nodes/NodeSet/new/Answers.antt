use Rattle.std.proofs.Common.{refl}
use Rattle.std.proofs.lemmas.Bool.{both_ways}
use Rattle.worklist.proofs.Marking.{unmarked}
use Rattle.worklist.proofs.nodes.NodeSet.new.Goals as goal

pub invariant_of-result : goal.invariant_of-result
invariant_of-result c = record { in_range = c.requires; long = refl; below = λ v on. absurd (both_ways _ (unmarked v) on) }
