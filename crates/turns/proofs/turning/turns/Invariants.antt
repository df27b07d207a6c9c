use Rattle.runs.specs.Parts.{SameParts, told}
use Rattle.runs.specs.Turns.{Turns}
use Rattle.turns.proofs.turning.turns.Given as goal

abbrev pub invariant-loop-done : goal.invariant-loop-done
invariant-loop-done g l =
    Turns g.L.WorkList.work (g.N.Network.means l.initial.sheet.net.now) (told l.initial.sheet) l.done (told l.sheet)
    × SameParts l.initial.sheet l.sheet
