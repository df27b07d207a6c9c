use Rattle.std.proofs.Common.{sym, ◌∙◌, arith}
use Rattle.runs.specs.Parts.{told}
use Rattle.turns.proofs.Passing.{skips_marked, skips_away, passed_by, labelled_still}
use Rattle.turns.proofs.turning.pass.Goals as goal
use Rattle.turns.proofs.turning.pass.Goals.{then-sheet-road-ne0-via-then-sheet-road-ne0, then-sheet-road-ne0-via-else-sheet-road-ne0+then-tail-node}

pub returns-then-sheet-road-ne0-clause-passed_or_full : goal.returns-then-sheet-road-ne0-clause-passed_or_full
returns-then-sheet-road-ne0-clause-passed_or_full g c =
    let s = c.args.sheet.now in
    elim c.then-sheet-road-ne0.branch [
      | then-sheet-road-ne0-via-then-sheet-road-ne0 w ↦ skips_marked _ _ _ _ _ (omega (arith, s.ready.roads, c.requires.road)) w.if-sheet-road-ne0.true
      | then-sheet-road-ne0-via-else-sheet-road-ne0+then-tail-node w ↦ skips_away _ _ _ _ _ (omega (arith, s.ready.roads, c.requires.road)) w.tail.result w.tail.ensures.tail_is w.if-tail-node.true
    ]

pub returns-clause-stays_labelled : goal.returns-clause-stays_labelled
returns-clause-stays_labelled g c =
    let s = c.args.sheet.now in
    labelled_still g.L.WorkList.work _ (g.N.Network.lawful s.net.now) (told s) (told c.relax.new.sheet) c.args.node c.args.road s.ready (omega (arith, s.ready.roads, c.requires.road)) c.if-sheet-road-ne0.false
    (sym c.tail.ensures.tail_is ∙ c.if-tail-node.false) c.requires.labelled c.relax.result c.relax.ensures.relaxed_or_full

pub returns-clause-passed_or_full : goal.returns-clause-passed_or_full
returns-clause-passed_or_full g c =
    let s = c.args.sheet.now in
    passed_by g.L.WorkList.work _ (g.N.Network.lawful s.net.now) (told s) (told c.relax.new.sheet) c.args.node c.args.road s.ready (omega (arith, s.ready.roads, c.requires.road)) c.if-sheet-road-ne0.false
    (sym c.tail.ensures.tail_is ∙ c.if-tail-node.false) c.requires.labelled c.relax.result c.relax.ensures.relaxed_or_full
