-- Sheets as they are ruled.
use Rattle.std.specs.Prelude.{◌≡◌, ℕ, ◌*◌, cond, ◌&&◌, List, ◌++◌, length, drop, replicate, Some, None, Option, nat_le}
use Rattle.refusal.specs.declared.Refusal.{Refusal}
use Rattle.refusal.specs.declared.Refusal.TheVariants.{Figures as out_of_range, Short}
use Rattle.network.specs.Net.{Net}
use Rattle.rows.specs.Rows.{width}
use Rattle.worklist.specs.Work.{Work}
use Rattle.runs.specs.declared.Figures.{Figures}
use Rattle.runs.specs.Figured.{ruled}
use Rattle.runs.specs.Sheet.{State}

-- a window, places or an allowance out of range
abbrev pub unruly : ℕ → ℕ → ℕ → Option Refusal
unruly H P p = cond (ruled H P p) None (Some out_of_range)

-- rows with fewer numbers than n rows have, or marks with fewer than m
abbrev pub cramped : ℕ → ℕ → ℕ → List ℕ → List ℕ → Option Refusal
cramped n m P rows marks = cond (nat_le (n * width P) (length rows) && nat_le m (length marks)) None (Some Short)

-- the figures of a network's sheet without an origin
abbrev pub plain : Net → ℕ → ℕ → ℕ → Figures
plain net H P p = record { nodes = net.nodes; roads = net.roads; window = H; places = P; allowance = p; origin = None }

-- every row of the sheet is 0, and every mark; memory past them is kept
abbrev pub blank_rows : Figures → List ℕ → List ℕ
blank_rows f rows = replicate (f.nodes * width f.places) 0 ++ drop (f.nodes * width f.places) rows

abbrev pub blank_marks : Figures → List ℕ → List ℕ
blank_marks f marks = replicate f.roads 0 ++ drop f.roads marks

-- so they are, and nothing waits
pub record Ruled {L : Type 0} (w : Work L) (f : Figures) (rs ms : List ℕ) (l : L) (s : State L) : Type 0 where
  pub heading : s.heading ≡ f
  pub rows : s.rows ≡ blank_rows f rs
  pub marks : s.marks ≡ blank_marks f ms
  pub clears : w.clears l f.nodes s.list
