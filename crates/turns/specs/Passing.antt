-- A turn, road by road.
use Rattle.std.specs.Prelude.{◌≡◌, ℕ, ◌+◌}
use Rattle.network.specs.Net.{Net}
use Rattle.worklist.specs.Work.{Work, Idle}
use Rattle.runs.specs.Sheet.{State}
use Rattle.runs.specs.Turns.{Due, Filled, Passed, Turned, Stopped}
use Rattle.turns.specs.declared.turning.Ended.{Ended}
use Rattle.turns.specs.declared.turning.Ended.TheVariants.{Idle as idle, Finished as finished, Full as full}

-- a turn of u that has passed the roads below r, at s, has passed r too, at s'
abbrev pub Steps : {L : Type 0} → Work L → Net → ℕ → ℕ → State L → State L → Type 0
Steps {L} w net u r s s' = (s₀ : State L) → Passed w net u s₀ r s → Passed w net u s₀ (r + 1) s'

-- the road r out of u is due, and full
pub record Blocked {L : Type 0} (net : Net) (u r : ℕ) (s s' : State L) : Type 0 where
  pub due : Due net s u r
  pub filled : Filled net s r s'

-- what a turn did, by how it ended: nothing waited and nothing changed, it was finished, or it stopped at a road
abbrev pub Went : {L : Type 0} → Work L → Net → Ended → State L → State L → Type 0
Went w net idle s s' = Idle w s.list × (s' ≡ s)
Went w net finished s s' = Turned w net s s'
Went w net (full r) s s' = Stopped w net s r s'
