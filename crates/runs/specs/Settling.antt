-- What turns leave behind: roads within their allowances, and labels that are never later.
use Rattle.std.specs.Prelude.{◌≡◌, ℕ, ◌<◌, ◌≤◌, true, false, slice_index}
use Rattle.network.specs.Net.{Net}
use Rattle.worklist.specs.Work.{Work}
use Rattle.runs.specs.declared.Outcome.{Outcome}
use Rattle.runs.specs.declared.Outcome.TheVariants.{Settled}
use Rattle.runs.specs.Sheet.{State, labelled, at, Within}

-- every open road out of a node that has a label and does not wait has its head's label within its allowance
abbrev pub Even : {L : Type 0} → Work L → Net → State L → Type 0
Even w net s =
    (r : ℕ) → r < net.roads → slice_index s.marks r ≡ 0 → labelled s.heading s.rows (net.tail r) ≡ true → w.waits s.list (net.tail r) ≡ false → Within net s.heading s.rows r

-- no label is lost, and none is later at any departure
pub record Falls {L : Type 0} (s s' : State L) : Type 0 where
  pub heading : s'.heading ≡ s.heading
  pub marks : s'.marks ≡ s.marks
  pub labels : (x : ℕ) → labelled s.heading s.rows x ≡ true → labelled s.heading s'.rows x ≡ true
  pub earlier : (x t : ℕ) → t ≤ s.heading.window → labelled s.heading s.rows x ≡ true → at s.heading s'.rows x t ≤ at s.heading s.rows x t

-- every open road out of a node that has a label has its head's label within its allowance
abbrev pub AllWithin : {L : Type 0} → Net → State L → Type 0
AllWithin net s = (r : ℕ) → r < net.roads → slice_index s.marks r ≡ 0 → labelled s.heading s.rows (net.tail r) ≡ true → Within net s.heading s.rows r

-- work leaves a sheet even that was even; settled, all its roads are within their allowances; and it raises no label
pub record Settles {L : Type 0} (w : Work L) (net : Net) (s : State L) (a : Outcome) (s' : State L) : Type 0 where
  pub even : Even w net s → Even w net s'
  pub all_within : a ≡ Settled → Even w net s → AllWithin net s'
  pub falls : Falls s s'
