-- What relaxing needs and reckons with.
use Rattle.std.specs.Prelude.{◌≡◌, ℕ, ◌+◌, ◌*◌, ◌≤◌, List, length, drop, ◌≢◌, slice_index}
use Rattle.curve.specs.declared.points.Point.{Point}
use Rattle.rows.specs.Rows.{width, laid_out}
use Rattle.network.specs.Net.{Net}
use Rattle.runs.specs.declared.Figures.{Figures}
use Rattle.runs.specs.Figured.{Right}
use Rattle.runs.specs.Sheet.{row, at, allow, over, lo, up, Within}
use Rattle.runs.specs.Formed.{Laid}

-- figures, rows and network belong together
pub record Ready (net : Net) (f : Figures) (rs : List ℕ) : Type 0 where
  pub right : Right f
  pub room : f.nodes * width f.places ≤ length rs
  pub nodes : net.nodes ≡ f.nodes
  pub roads : net.roads ≡ f.roads
  pub laid : Laid f rs

-- xs has what the label of node v reads, departure by departure
abbrev pub Sampled : Figures → List ℕ → ℕ → List ℕ → Type 0
Sampled f rows v xs = (t : ℕ) → t ≤ f.window → slice_index xs t ≡ at f rows v t

-- ls and us have the arrivals over r, without and with its allowance
pub record Offered (net : Net) (f : Figures) (rows : List ℕ) (r : ℕ) (ls us : List ℕ) : Type 0 where
  pub low : (t : ℕ) → t ≤ f.window → slice_index ls t ≡ over net f rows r t
  pub high : (t : ℕ) → t ≤ f.window → slice_index us t ≡ over net f rows r t + allow net f r

-- r asks for a label, and ls and us have its corridor
pub record Asked (net : Net) (f : Figures) (rows : List ℕ) (r : ℕ) (ls us : List ℕ) : Type 0 where
  pub needed : Within net f rows r → ⊥
  pub low : (t : ℕ) → t ≤ f.window → slice_index ls t ≡ lo net f rows r t
  pub high : (t : ℕ) → t ≤ f.window → slice_index us t ≡ up net f rows r t

-- node v has the label ps in its own row, and the rest is as it was
pub record Rewritten (f : Figures) (rows : List ℕ) (v : ℕ) (ps : List Point) (rows' : List ℕ) : Type 0 where
  pub size : length rows' ≡ length rows
  pub others : (x : ℕ) → (x ≢ v) → row f.places rows' x ≡ row f.places rows x
  pub past : drop (f.nodes * width f.places) rows' ≡ drop (f.nodes * width f.places) rows
  pub own : row f.places rows' v ≡ laid_out f.places ps
