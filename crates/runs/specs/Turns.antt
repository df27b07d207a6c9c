-- Relaxing, turns and work, for every network and every work list.
use Rattle.std.specs.Prelude.{◌≡◌, ℕ, ◌+◌, ◌*◌, ◌<◌, ◌≤◌, true, false, List, length, drop, Some, ◌≢◌, slice_index_or}
use Rattle.curve.specs.declared.points.Point.{Point}
use Rattle.corridor.specs.Corridor.{Corridor}
use Rattle.rows.specs.Rows.{width, laid_out}
use Rattle.network.specs.Net.{Net}
use Rattle.worklist.specs.Work.{Work, Idle}
use Rattle.runs.specs.declared.Figures.{Figures}
use Rattle.runs.specs.declared.Outcome.{Outcome}
use Rattle.runs.specs.declared.Outcome.TheVariants.{Full as full, Settled as settled, More as more}
use Rattle.runs.specs.Sheet.{State, with_list, row, labelled, at, lo, up, Within}

-- the road r is open and leaves u
pub record Due {L : Type 0} (net : Net) (s : State L) (u r : ℕ) : Type 0 where
  pub road : r < net.roads
  pub leaves : net.tail r ≡ u
  pub unmarked : slice_index_or s.marks r 0 ≡ 0

-- the head of r gets a new label, the corridor's, in its own row alone
pub record Replaced (net : Net) (f : Figures) (rows : List ℕ) (r : ℕ) (rows' : List ℕ) : Type 0 where
  pub size : length rows' ≡ length rows
  pub others : (v : ℕ) → (v ≢ net.head r) → row f.places rows' v ≡ row f.places rows v
  pub past : drop (f.nodes * width f.places) rows' ≡ drop (f.nodes * width f.places) rows
  pub new : List Point
  pub corridor : Corridor (lo net f rows r) (up net f rows r) f.window new
  pub fits : length new ≤ f.places
  pub own : row f.places rows' (net.head r) ≡ laid_out f.places new

-- it does, and is put on the list, by its arrival at departure 0
pub record Changed {L : Type 0} (w : Work L) (net : Net) (s : State L) (r : ℕ) (s' : State L) : Type 0 where
  pub needed : Within net s.heading s.rows r → ⊥
  pub heading : s'.heading ≡ s.heading
  pub marks : s'.marks ≡ s.marks
  pub replaced : Replaced net s.heading s.rows r s'.rows
  pub put : w.puts s.list (net.head r) (at s.heading s'.rows (net.head r) 0) s'.list

-- relaxing r: nothing changes where the label of its head is within its allowance already
pub data Relaxed {L : Type 0} (w : Work L) (net : Net) (s : State L) (r : ℕ) (s' : State L) : Type 0 where
  kept : Within net s.heading s.rows r → s' ≡ s → Relaxed w net s r s'
  changed : Changed w net s r s' → Relaxed w net s r s'

-- r asks for a label, and the one that the corridor rule makes has more points than a row has places for
pub record Full {L : Type 0} (net : Net) (s : State L) (r : ℕ) : Type 0 where
  pub needed : Within net s.heading s.rows r → ⊥
  pub long : (ps : List Point) → Corridor (lo net s.heading s.rows r) (up net s.heading s.rows r) s.heading.window ps → s.heading.places < length ps

-- it does, and nothing changed
pub record Filled {L : Type 0} (net : Net) (s : State L) (r : ℕ) (s' : State L) : Type 0 where
  pub full_at : Full net s r
  pub same : s' ≡ s

-- from s, the open roads out of u below k were relaxed, by rising number
pub data Passed {L : Type 0} (w : Work L) (net : Net) (u : ℕ) (s : State L) : ℕ → State L → Type 0 where
  begins : Passed w net u s 0 s
  passes : {k : ℕ} {s₁ : State L} → Passed w net u s k s₁ → k < net.roads → (Due net s₁ u k → ⊥) → Passed w net u s (k + 1) s₁
  relaxes : {k : ℕ} {s₁ s₂ : State L} → Passed w net u s k s₁ → Due net s₁ u k → Relaxed w net s₁ k s₂ → Passed w net u s (k + 1) s₂

-- a finished turn: a waiting node is taken, and all its open roads are relaxed; without a label it relaxes nothing
pub data Turned {L : Type 0} (w : Work L) (net : Net) (s s' : State L) : Type 0 where
  idles : (u : ℕ) (l : L) → w.takes s.list (Some u) l → labelled s.heading s.rows u ≡ false → s' ≡ with_list s l → Turned w net s s'
  relaxed : (u : ℕ) (l : L) → w.takes s.list (Some u) l → labelled s.heading s.rows u ≡ true → Passed w net u (with_list s l) net.roads s' → Turned w net s s'

-- an unfinished turn: the label that r asks for is full, and the node taken is put back
pub record Stopped {L : Type 0} (w : Work L) (net : Net) (s : State L) (r : ℕ) (s' : State L) : Type 0 where
  pub node : ℕ
  pub left : L
  pub taken : w.takes s.list (Some node) left
  pub some : labelled s.heading s.rows node ≡ true
  pub last : State L
  pub passed : Passed w net node (with_list s left) r last
  pub due : Due net last node r
  pub long : Full net last r
  pub back : L
  pub put : w.puts last.list node (at last.heading last.rows node 0) back
  pub is : s' ≡ with_list last back

-- i turns were finished
pub data Turns {L : Type 0} (w : Work L) (net : Net) (s : State L) : ℕ → State L → Type 0 where
  at_first : Turns w net s 0 s
  then_one : {i : ℕ} {s₁ s₂ : State L} → Turns w net s i s₁ → Turned w net s₁ s₂ → Turns w net s (i + 1) s₂

-- work(k) finishes exactly k turns unless nothing waits or a label is full: the turns i that it finished, and the outcome
pub data Worked {L : Type 0} (w : Work L) (net : Net) (s : State L) (k i : ℕ) : Outcome → State L → Type 0 where
  fills : {r : ℕ} {s₁ s₂ : State L} → i < k → Turns w net s i s₁ → Stopped w net s₁ r s₂ → Worked w net s k i (full r) s₂
  settles : {s₁ : State L} → i ≤ k → Turns w net s i s₁ → Idle w s₁.list → Worked w net s k i settled s₁
  pauses : {s₁ : State L} → i ≡ k → Turns w net s i s₁ → (Idle w s₁.list → ⊥) → Worked w net s k i more s₁
