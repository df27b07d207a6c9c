use Rattle.std.proofs.Common.{ap, ◌∙◌, subst, rules}
use Rattle.runs.specs.declared.heading.Heading.{Heading}
use Rattle.runs.specs.Ready.{Ready}
use Rattle.runs.specs.Figured.{right_tells}
use Rattle.runs.proofs.Settling.{work_settles}
use Rattle.sheet.proofs.Judgements.{fit}
use Rattle.turns.proofs.Readying.{readied, fitted}
use Rattle.turns.proofs.working.work.Goals as goal

pub invariant_of-sheet : goal.invariant_of-sheet
invariant_of-sheet g c =
    let parts = fit c.in_ok-judge.ensures.judged in
    record { ready = readied (right_tells c.args.heading.now.figures c.args.heading.now.lawful) parts; bound = parts.agree.bound }

pub returns-clause-settles : goal.returns-clause-settles
returns-clause-settles g c =
    let h = c.args.heading.now in
    let parts = fit c.in_ok-judge.ensures.judged in
    work_settles g.L.WorkList.work g.met.L.WorkList.orderly _ (g.N.Network.lawful c.args.net.now) _ c.args.count c.turns.result.0 c.turns.result.1 _ (readied (right_tells h.figures h.lawful) parts) (search rules)

pub returns-clause-fits : goal.returns-clause-fits
returns-clause-fits g c =
    let t = c.turns.new.sheet in
    let same = c.turns.ensures.same_parts in
    let ready = subst (λ (h : Heading). Ready (g.N.Network.means c.args.net.now) h.figures t.rows.now) same.heading (subst (λ (n : _). Ready (g.N.Network.means n) t.heading.figures t.rows.now) same.net t.ready) in
    let bound = t.bound ∙ ap (λ (h : Heading). h.figures.nodes) same.heading in
    fitted (fit c.in_ok-judge.ensures.judged) (search (rules, bound)) (search (rules, ready))
