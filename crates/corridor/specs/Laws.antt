-- What holds of the rule itself.
use Rattle.std.specs.Prelude.{◌≡◌, ℕ, ◌+◌, ◌-◌, ◌<◌, ◌≤◌, true, List, [], ◌∷◌, length, get_or, slice_index_or}
use Rattle.curve.specs.declared.points.Point.{Point}
use Rattle.curve.specs.Curve.{no_point, reads, climbing}
use Rattle.corridor.specs.Corridor.{Next, Corridor, Ordered, NeverFalls, Stands, point}

-- a point has at most one next
abbrev pub NextOnce : Type 0
NextOnce = (lo up : ℕ → ℕ) (n : ℕ) (p q r : Point) → Next lo up n p q → Next lo up n p r → q ≡ r

-- two curves have a label where the lower stays below the upper and that never falls
abbrev pub LabelMade : Type 0
LabelMade = (lo up : ℕ → ℕ) (H : ℕ) → Ordered lo up H → NeverFalls up H → (ps : List Point) × Corridor lo up H ps

-- and never two
abbrev pub LabelOnce : Type 0
LabelOnce = (lo up : ℕ → ℕ) (H : ℕ) (ps qs : List Point) → Corridor lo up H ps → Corridor lo up H qs → ps ≡ qs

-- it hangs on the heights from 0 to H alone
abbrev pub LabelLike : Type 0
LabelLike = (lo up lo' up' : ℕ → ℕ) (H : ℕ) (ps : List Point) → ((t : ℕ) → t ≤ H → lo t ≡ lo' t) → ((t : ℕ) → t ≤ H → up t ≡ up' t) → Corridor lo up H ps → Corridor lo' up' H ps

-- points that climb from minute 0 to minute H, at most one a minute
pub record Spans (H : ℕ) (ps : List Point) : Type 0 where
  pub climbs : climbing ps ≡ true
  pub some : 0 < length ps
  pub two : 1 ≤ H → 2 ≤ length ps
  pub few : length ps ≤ H + 1
  pub first : (get_or ps 0 no_point).departure ≡ 0
  pub final : (get_or ps (length ps - 1) no_point).departure ≡ H

-- a label's points do
abbrev pub LabelSpans : Type 0
LabelSpans = (lo up : ℕ → ℕ) (H : ℕ) (ps : List Point) → Corridor lo up H ps → Spans H ps

-- each of them stands in the corridor
abbrev pub LabelStands : Type 0
LabelStands = (lo up : ℕ → ℕ) (H : ℕ) (ps : List Point) → Ordered lo up H → Corridor lo up H ps → (i : ℕ) → i < length ps → Stands lo up H (slice_index_or ps i no_point)

-- and is what the label reads there; who sets out at H does not arrive before
abbrev pub LabelExact : Type 0
LabelExact = (lo up : ℕ → ℕ) (H : ℕ) (ps : List Point) → Ordered lo up H → H ≤ lo H → Corridor lo up H ps → (i : ℕ) → i < length ps → reads ps (get_or ps i no_point).departure ≡ (get_or ps i no_point).arrival

-- at every minute it reads from lo to up
abbrev pub LabelHeld : Type 0
LabelHeld = (lo up : ℕ → ℕ) (H : ℕ) (ps : List Point) → Ordered lo up H → H ≤ lo H → Corridor lo up H ps → (t : ℕ) → t ≤ H → (lo t ≤ reads ps t) × (reads ps t ≤ up t)

-- it never falls
abbrev pub LabelRises : Type 0
LabelRises = (lo up : ℕ → ℕ) (H : ℕ) (ps : List Point) → Corridor lo up H ps → (t u : ℕ) → t ≤ u → reads ps t ≤ reads ps u

-- from p on, each point is the next after the one before, and the last is q
abbrev pub Leads : (ℕ → ℕ) → (ℕ → ℕ) → ℕ → Point → List Point → Point → Type 0
Leads lo up H p [] q = p ≡ q
Leads lo up H p (r ∷ ps) q = Next lo up (H + 1) p r × Leads lo up H r ps q

-- ps begins the label, and has come to q
abbrev pub Begins : (ℕ → ℕ) → (ℕ → ℕ) → ℕ → List Point → Point → Type 0
Begins lo up H [] q = ⊥
Begins lo up H (p ∷ ps) q = (p ≡ point 0 (lo 0)) × Leads lo up H p ps q

-- where it has not come to H, the label is longer
abbrev pub LabelLonger : Type 0
LabelLonger = (lo up : ℕ → ℕ) (H : ℕ) (ps qs : List Point) (q : Point) → Begins lo up H ps q → q.departure < H → Corridor lo up H qs → length ps < length qs

pub record Laws : Type 0 where
  pub next_once : NextOnce
  pub label_made : LabelMade
  pub label_once : LabelOnce
  pub label_like : LabelLike
  pub label_spans : LabelSpans
  pub label_stands : LabelStands
  pub label_exact : LabelExact
  pub label_held : LabelHeld
  pub label_rises : LabelRises
  pub label_longer : LabelLonger
