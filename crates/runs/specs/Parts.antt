-- The parts of a sheet that is worked on.
use Rattle.std.specs.Prelude.{◌≡◌}
use Rattle.network.specs.declared.meaning.Network.{Ghosts as Networks}
use Rattle.worklist.specs.declared.list.WorkList.{Ghosts as WorkLists}
use Rattle.runs.specs.declared.sheet.Sheet.{Sheet}
use Rattle.runs.specs.Sheet.{State, state}

-- what is told of it: its figures, rows, marks and list
abbrev pub told : {N L : Type 0} {n : Networks N} {l : WorkLists L} → Sheet N L n l → State L
told s = state s.heading.figures s.rows.now s.marks.now s.list.now

-- it stands for the same network, under the same heading and marks, in the same memory
pub record SameParts {N L : Type 0} {n : Networks N} {l : WorkLists L} (s t : Sheet N L n l) : Type 0 where
  pub net : t.net.now ≡ s.net.now
  pub heading : t.heading ≡ s.heading
  pub marks : t.marks.now ≡ s.marks.now
  pub rows : t.rows.ghost_name ≡ s.rows.ghost_name
  pub list : t.list.ghost_name ≡ s.list.ghost_name
