use Rattle.worklist.proofs.Sets.{sets}
use Rattle.worklist.proofs.list.set_laws_stand.Goals as goal

pub returns : goal.returns
returns g c = record { laws_of_the_set = sets g.L.WorkList.work g.met.L.WorkList.orderly }
