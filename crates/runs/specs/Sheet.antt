-- A sheet: its figures, rows, marks and work list, and what its labels read.
use Rattle.std.specs.Prelude.{◌≡◌, ℕ, ◌+◌, ◌*◌, ◌/◌, ◌≤◌, min, Bool, true, false, cond, List, [], ◌∷◌, take, drop, Some, None, Option}
use Rattle.curve.specs.declared.points.Point.{Point}
use Rattle.curve.specs.Curve.{reads}
use Rattle.rows.specs.Rows.{width, points}
use Rattle.network.specs.Net.{Net}
use Rattle.runs.specs.declared.Figures.{Figures}

-- what the calls on a sheet find and leave
pub record State (L : Type 0) : Type 0 where
  pub heading : Figures
  pub rows : List ℕ
  pub marks : List ℕ
  pub list : L

abbrev pub state : {L : Type 0} → Figures → List ℕ → List ℕ → L → State L
state f rows marks list = record { heading = f; rows = rows; marks = marks; list = list }

abbrev pub with_list : {L : Type 0} → State L → L → State L
with_list s l = record { heading = s.heading; rows = s.rows; marks = s.marks; list = l }

-- the row of node v
unfoldable pub row : ℕ → List ℕ → ℕ → List ℕ
row P rows v = take (width P) (drop (v * width P) rows)

abbrev pub any : List Point → Bool
any [] = false
any (p ∷ ps) = true

-- the label of an origin: who sets out at t is there at t
abbrev pub diagonal : ℕ → List Point
diagonal H = record { departure = 0; arrival = 0 } ∷ (record { departure = H; arrival = H } ∷ [])

module _ (f : Figures) (rows : List ℕ) where
  -- the label of node v: no points where it has none
  abbrev pub label : ℕ → List Point
  label v = points (row f.places rows v)

  abbrev pub labelled : ℕ → Bool
  labelled v = any (label v)

  -- what the label of node v reads at departure t
  abbrev pub at : ℕ → ℕ → ℕ
  at v t = reads (label v) t

  -- what the sheet reads
  abbrev pub reading : ℕ → ℕ → Option ℕ
  reading v t = cond (labelled v) (Some (at v t)) None

-- the minutes by which a label may be late over the road r
abbrev pub allow : Net → Figures → ℕ → ℕ
allow net f r = f.allowance * net.least r / 10000

module _ (net : Net) (f : Figures) (rows : List ℕ) where
  -- the arrival at the head of r over r, for departure t
  abbrev pub over : ℕ → ℕ → ℕ
  over r t = net.cross r (at f rows (net.tail r) t)

  -- the corridor that r leaves to the label of its head: from the earlier of the label and the arrival over r
  abbrev pub lo : ℕ → ℕ → ℕ
  lo r t = cond (labelled f rows (net.head r)) (min (at f rows (net.head r) t) (over r t)) (over r t)

  -- to the earlier of the label and that arrival with the road's allowance
  abbrev pub up : ℕ → ℕ → ℕ
  up r t = cond (labelled f rows (net.head r)) (min (at f rows (net.head r) t) (over r t + allow net f r)) (over r t + allow net f r)

  -- the head of r has a label, within the allowance of the arrival over r at every departure
  pub record Within (r : ℕ) : Type 0 where
    pub some : labelled f rows (net.head r) ≡ true
    pub near : (t : ℕ) → t ≤ f.window → at f rows (net.head r) t ≤ over r t + allow net f r
