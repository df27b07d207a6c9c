-- Whether the parts of a sheet may be used together.
use Rattle.std.specs.Prelude.{◌≡◌, ℕ, ◌*◌, ◌≤◌, cond, List, length, Some, None, Option, nat_lt}
use Rattle.refusal.specs.declared.Refusal.{Refusal}
use Rattle.refusal.specs.declared.Refusal.TheVariants.{Short, Disagree, Range}
use Rattle.refusal.specs.Refusals.{or_else}
use Rattle.network.specs.Net.{Net}
use Rattle.rows.specs.Rows.{width}
use Rattle.runs.specs.declared.Figures.{Figures}
use Rattle.runs.specs.Formed.{WellFormed}

-- the rows and marks that were lent are long enough
pub record Roomy (f : Figures) (rs ms : List ℕ) : Type 0 where
  pub rows : f.nodes * width f.places ≤ length rs
  pub marks : f.roads ≤ length ms

-- heading, network and list speak of the same nodes and roads
pub record Agree (net : Net) (f : Figures) (limit : ℕ) : Type 0 where
  pub nodes : net.nodes ≡ f.nodes
  pub roads : net.roads ≡ f.roads
  pub bound : limit ≡ f.nodes

-- the parts of a sheet belong together
pub record Fit (net : Net) (f : Figures) (rows marks : List ℕ) (limit : ℕ) : Type 0 where
  pub roomy : Roomy f rows marks
  pub agree : Agree net f limit
  pub formed : WellFormed f rows marks

-- why they are refused, if they are: too short before they disagree or are not well formed
pub data Judged (net : Net) (f : Figures) (rows marks : List ℕ) (limit : ℕ) : Option Refusal → Type 0 where
  short : (Roomy f rows marks → ⊥) → Judged net f rows marks limit (Some Short)
  disagrees : Roomy f rows marks → (Fit net f rows marks limit → ⊥) → Judged net f rows marks limit (Some Disagree)
  fits : Fit net f rows marks limit → Judged net f rows marks limit None

-- what a call answers that judges the parts first, and then finds the fault other, if any
pub record JudgedThen (net : Net) (f : Figures) (rows marks : List ℕ) (limit : ℕ) (other answer : Option Refusal) : Type 0 where
  pub first : Option Refusal
  pub judged : Judged net f rows marks limit first
  pub answers : answer ≡ or_else first other

-- a node that there is not
abbrev pub unplaced : Figures → ℕ → Option Refusal
unplaced f v = cond (nat_lt v f.nodes) None (Some Range)
