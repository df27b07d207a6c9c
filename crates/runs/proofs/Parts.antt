-- Sheets with the same parts.
use Rattle.std.proofs.Common.{refl, ◌∙◌}
use Rattle.network.specs.declared.meaning.Network.{Ghosts as Networks}
use Rattle.worklist.specs.declared.list.WorkList.{Ghosts as WorkLists}
use Rattle.runs.specs.declared.sheet.Sheet.{Sheet}
use Rattle.runs.specs.Parts.{SameParts}

module _ {N L : Type 0} {n : Networks N} {l : WorkLists L} where
  pub parts_same : (s : Sheet N L n l) → SameParts s s
  parts_same s = record { net = refl; heading = refl; marks = refl; rows = refl; list = refl }

  pub parts_on : (s t u : Sheet N L n l) → SameParts s t → SameParts t u → SameParts s u
  parts_on s t u a b = record { net = b.net ∙ a.net; heading = b.heading ∙ a.heading; marks = b.marks ∙ a.marks; rows = b.rows ∙ a.rows; list = b.list ∙ a.list }
