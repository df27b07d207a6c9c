-- Sheets that begin anew with an origin.
use Rattle.std.specs.Prelude.{◌≡◌, ℕ, ◌*◌, ◌<◌, length, drop, replicate, ◌≢◌}
use Rattle.rows.specs.Rows.{width, laid_out}
use Rattle.worklist.specs.Work.{Work}
use Rattle.runs.specs.Figured.{with_origin}
use Rattle.runs.specs.Sheet.{State, row, diagonal}

-- v has an origin's row, every other node a blank one, and v alone waits, by key 0; memory past the rows is kept
pub record Restarted {L : Type 0} (w : Work L) (s : State L) (v : ℕ) (s' : State L) : Type 0 where
  pub own : row s.heading.places s'.rows v ≡ laid_out s.heading.places (diagonal s.heading.window)
  pub others : (x : ℕ) → x < s.heading.nodes → (x ≢ v) → row s.heading.places s'.rows x ≡ replicate (width s.heading.places) 0
  pub past : drop (s.heading.nodes * width s.heading.places) s'.rows ≡ drop (s.heading.nodes * width s.heading.places) s.rows
  pub size : length s'.rows ≡ length s.rows
  pub cleared : L
  pub clears : w.clears s.list s.heading.nodes cleared
  pub put : w.puts cleared v 0 s'.list

-- v, a node, is now the origin, and the sheet begins anew with it
pub record Originated {L : Type 0} (w : Work L) (s : State L) (v : ℕ) (s' : State L) : Type 0 where
  pub node : v < s.heading.nodes
  pub heading : s'.heading ≡ with_origin s.heading v
  pub marks : s'.marks ≡ s.marks
  pub restarted : Restarted w s v s'
