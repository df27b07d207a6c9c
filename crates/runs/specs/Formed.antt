-- Well-formed sheets.
use Rattle.std.specs.Prelude.{◌≡◌, ℕ, zero, suc, ◌+◌, ◌-◌, ◌*◌, ◌<◌, ◌≤◌, true, cond, List, length, replicate, Some, None, slice_index, slice_index_or}
use Rattle.curve.specs.declared.points.Point.{Point}
use Rattle.curve.specs.Curve.{no_point, climbing}
use Rattle.rows.specs.Rows.{width, laid_out}
use Rattle.runs.specs.declared.Figures.{Figures}
use Rattle.runs.specs.Sheet.{row, diagonal, labelled}

-- a label over the departures 0 to H: two points or more, climbing from departure 0 to departure H, none before its
-- departure and none after limit
pub record Label (H limit : ℕ) (ps : List Point) : Type 0 where
  pub two : 2 ≤ length ps
  pub climbs : climbing ps ≡ true
  pub starts : (slice_index_or ps 0 no_point).departure ≡ 0
  pub ends : (slice_index_or ps (length ps - 1) no_point).departure ≡ H
  pub prompt : (i : ℕ) → i < length ps → (slice_index_or ps i no_point).departure ≤ (slice_index_or ps i no_point).arrival
  pub early : (i : ℕ) → i < length ps → (slice_index_or ps i no_point).arrival ≤ limit

-- a row with places for P points holds a label, or nothing
pub data Row (P H limit : ℕ) (xs : List ℕ) : Type 0 where
  blank : xs ≡ replicate (width P) 0 → Row P H limit xs
  holds : (ps : List Point) → xs ≡ laid_out P ps → length ps ≤ P → Label H limit ps → Row P H limit xs

module _ (f : Figures) (rows : List ℕ) where
  -- how many of the nodes below k have a label
  abbrev pub labels_below : ℕ → ℕ
  labels_below zero = 0
  labels_below (suc k) = labels_below k + cond (labelled f rows k) 1 0

  -- no arrival is later
  abbrev pub latest : ℕ
  latest = f.window + 20000 * (labels_below f.nodes - 1)

-- what is looked at are the first n rows and the first m marks
pub record WellFormed (f : Figures) (rows marks : List ℕ) : Type 0 where
  pub marked : (r : ℕ) → r < f.roads → slice_index marks r ≤ 1
  pub holding : (v : ℕ) → v < f.nodes → Row f.places f.window (latest f rows) (row f.places rows v)
  pub origin_row : (o : ℕ) → f.origin ≡ Some o → row f.places rows o ≡ laid_out f.places (diagonal f.window)
  pub bare : f.origin ≡ None → (v : ℕ) → v < f.nodes → row f.places rows v ≡ replicate (width f.places) 0

-- the rows of a well-formed sheet
pub record Laid (f : Figures) (rows : List ℕ) : Type 0 where
  pub holding : (v : ℕ) → v < f.nodes → Row f.places f.window (latest f rows) (row f.places rows v)
  pub origin_row : (o : ℕ) → f.origin ≡ Some o → row f.places rows o ≡ laid_out f.places (diagonal f.window)
  pub bare : f.origin ≡ None → (v : ℕ) → v < f.nodes → row f.places rows v ≡ replicate (width f.places) 0
