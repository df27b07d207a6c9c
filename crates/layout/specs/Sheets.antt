-- The labels of a flat sheet, row by row.
use Rattle.std.specs.Prelude.{ℕ, ◌*◌, ◌<◌, ◌≤◌, List, map, length, take, drop, slice_index, slice_index_or}
use Rattle.curve.specs.declared.points.Point.{Point}
use Rattle.rows.specs.Rows.{points}
use Rattle.std.specs.List.{range_with_len}

-- the v-th row
abbrev pub row_of : List ℕ → ℕ → ℕ → List ℕ
row_of cells width v = take width (drop (v * width) cells)

-- the first n rows
abbrev pub rows : List ℕ → ℕ → ℕ → List (List Point)
rows cells width n = map (λ v. points (row_of cells width v)) (range_with_len 0 n)

-- a row that holds its points, no more than a window has minutes
pub record RowFits (cells : List ℕ) : Type 0 where
  pub few : slice_index_or cells 0 0 ≤ 1441
  pub inside : 2 * slice_index cells 0 < length cells

-- rows that hold their points
pub record SheetFits (cells : List ℕ) (width n : ℕ) : Type 0 where
  pub few : n ≤ 1024
  pub inside : n * width ≤ length cells
  pub rows_fit : (v : ℕ) → v < n → RowFits (row_of cells width v)
