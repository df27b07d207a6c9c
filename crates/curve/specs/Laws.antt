-- What is proved of reading between points.
use Rattle.std.specs.Prelude.{◌≡◌, ℕ, ◌+◌, ◌<◌, ◌≤◌, true, List, length, get_or, slice_index_or}
use Rattle.curve.specs.declared.points.Point.{Point}
use Rattle.curve.specs.Curve.{no_point, span, between, reads, climbing}
use Rattle.curve.specs.Runs.{Over, Under}

-- the line between two points: exact at both, never above or below them, never falling
pub record LineLaws : Type 0 where
  pub exact_at_first : (p q : Point) (x : ℕ) → x ≡ p.departure → between p q x ≡ p.arrival
  pub exact_at_last : (p q : Point) (x : ℕ) → p.departure < q.departure → p.arrival ≤ q.arrival → x ≡ q.departure → between p q x ≡ q.arrival
  pub not_below : (p q : Point) (x : ℕ) → p.arrival ≤ between p q x
  pub not_above : (p q : Point) (x : ℕ) → p.departure < q.departure → p.arrival ≤ q.arrival → x ≤ q.departure → between p q x ≤ q.arrival
  pub never_falls : (p q : Point) (x y : ℕ) → p.departure < q.departure → x ≤ y → between p q x ≤ between p q y

-- a run of points: between two next to each other their line, after the last the same time as there; it never falls,
-- and no minute takes less than the quickest point or more than the slowest
pub record RunLaws : Type 0 where
  pub line_between : (ps : List Point) (i x : ℕ) → climbing ps ≡ true → i + 1 < length ps → (get_or ps i no_point).departure ≤ x → x < (get_or ps (i + 1) no_point).departure → reads ps x ≡ between (slice_index_or ps i no_point) (slice_index_or ps (i + 1) no_point) x
  pub stays_after : (ps : List Point) (i x : ℕ) → climbing ps ≡ true → i + 1 ≡ length ps → (get_or ps i no_point).departure ≤ x → reads ps x ≡ x + span (slice_index_or ps i no_point)
  pub never_falls : (ps : List Point) (x y : ℕ) → climbing ps ≡ true → (get_or ps 0 no_point).departure ≤ x → x ≤ y → reads ps x ≤ reads ps y
  pub not_quicker : (ps : List Point) (x l : ℕ) → climbing ps ≡ true → Over l ps → (get_or ps 0 no_point).departure ≤ x → 0 < length ps → x + l ≤ reads ps x
  pub not_slower : (ps : List Point) (x l : ℕ) → climbing ps ≡ true → Under l ps → (get_or ps 0 no_point).departure ≤ x → reads ps x ≤ x + l
