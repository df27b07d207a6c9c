use Rattle.std.proofs.Common.{sym, ◌∙◌}
use Rattle.std.proofs.lemmas.Bool.{eqb-true, eq-eqb, cases_from_iff}
use Rattle.keyed.proofs.Waiting.{none_waits, none_counts}
use Rattle.keyed.proofs.list.KeyedWorkList.is_empty.Goals as goal

pub returns : goal.returns
returns c =
    let l = c.args.self.now in
    let is = c.is_empty.ensures.no_entry in
    record { none_waits_or_some = cases_from_iff (λ e. none_waits l (eqb-true _ _ (sym is ∙ e)), λ idle. is ∙ eq-eqb _ _ (none_counts l idle)) }
