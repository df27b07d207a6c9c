use Rattle.std.proofs.lemmas.Bool.{eqb-true, eq-eqb, cases_from_iff}
use Rattle.worklist.proofs.Waiting.{none_waits, none_counts}
use Rattle.worklist.proofs.fifo.FifoWorkList.is_empty.Goals as goal

pub returns : goal.returns
returns c =
    let l = c.args.self.now in
    record { none_waits_or_some = cases_from_iff (λ e. none_waits l (eqb-true _ _ e), λ idle. eq-eqb _ _ (none_counts l idle)) }
