use Rattle.queue.proofs.Firsts.{one_first}
use Rattle.queue.proofs.entry.first_is_one_stands.Goals as goal

pub returns : goal.returns
returns g c = record { first_is_one = one_first g.met.T.Entry.total g.met.T.Entry.same }
