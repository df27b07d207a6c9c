use Rattle.std.proofs.Common.{◌≡◌, [], ◌∷◌, ◌++◌, take, drop}
use Rattle.corridor.specs.Corridor.{Stands}
use Rattle.corridor.specs.Curves.{curve_of, last}
use Rattle.corridor.specs.Laws.{Begins}
use Rattle.corridor.proofs.bounds.Bounds.label.Given as goal

abbrev pub invariant-loop-index : goal.invariant-loop-index
invariant-loop-index l =
    Begins (curve_of l.self.lo.now) (curve_of l.self.up.now) (last l.self.lo.now) (take l.index l.out ++ l.point ∷ []) l.point
    × Stands (curve_of l.self.lo.now) (curve_of l.self.up.now) (last l.self.lo.now) l.point
    × (drop l.index l.out ≡ drop l.index l.initial.out)
