-- Parts of the well-formed test.
use Rattle.std.specs.Prelude.{◌≡◌, ℕ, ◌<◌, ◌≤◌, List, length, replicate, Some, None, Option, slice_index, slice_index_or}
use Rattle.curve.specs.declared.points.Point.{Point}
use Rattle.curve.specs.Curve.{no_point}
use Rattle.rows.specs.Rows.{laid_out}
use Rattle.runs.specs.declared.Figures.{Figures}
use Rattle.runs.specs.Sheet.{row, diagonal}
use Rattle.runs.specs.Formed.{Row, labels_below}

-- every number is 0
abbrev pub Zero : List ℕ → Type 0
Zero xs = xs ≡ replicate (length xs) 0

-- no point arrives before it sets out, or after limit
pub record Prompt (limit : ℕ) (ps : List Point) : Type 0 where
  pub after : (i : ℕ) → i < length ps → (slice_index_or ps i no_point).departure ≤ (slice_index_or ps i no_point).arrival
  pub before : (i : ℕ) → i < length ps → (slice_index_or ps i no_point).arrival ≤ limit

-- every mark is 0 or 1
abbrev pub Marked : Figures → List ℕ → Type 0
Marked f marks = (r : ℕ) → r < f.roads → slice_index marks r ≤ 1

-- every row holds a label, or nothing
abbrev pub Holding : Figures → ℕ → List ℕ → Type 0
Holding f limit rows = (v : ℕ) → v < f.nodes → Row f.places f.window limit (row f.places rows v)

-- the origin has an origin's row; without one no node has a label
abbrev pub Begun : Figures → List ℕ → Option ℕ → Type 0
Begun f rows None = labels_below f rows f.nodes ≡ 0
Begun f rows (Some o) = row f.places rows o ≡ laid_out f.places (diagonal f.window)
