use Rattle.std.proofs.Common.{◌≡◌, true}
use Rattle.runs.specs.Parts.{SameParts, told}
use Rattle.runs.specs.Sheet.{labelled}
use Rattle.runs.specs.Turns.{Passed}
use Rattle.turns.proofs.turning.turn.Given as goal

abbrev pub invariant-loop-road : goal.invariant-loop-road
invariant-loop-road g l =
    Passed g.L.WorkList.work (g.N.Network.means l.initial.sheet.net.now) l.node (told l.initial.sheet) l.road (told l.sheet)
    × SameParts l.initial.sheet l.sheet
    × (labelled l.initial.sheet.heading.figures l.sheet.rows.now l.node ≡ true)
