-- The laws of a right run of points.
use Rattle.std.specs.Prelude.{◌≡◌, ℕ, suc, ◌+◌, ◌<◌, ◌≤◌, min, true, ◌⊎◌, List, [], ◌∷◌, length, map, get_or, slice_index_or, refl}
use Rattle.std.proofs.Common.{◌∙◌, inl, inr, arith, not-suc-le-zero}
use Rattle.std.proofs.lemmas.List.Elements.{All-from_get_or}
use Rattle.std.proofs.lemmas.List.Sums.{AllPass-from_list_all, list_all-from_AllPass}
use Rattle.std.specs.List.{fold}
use Rattle.std.proofs.lemmas.Bool.{and_parts, ltb-true, leb-true, eqb-true, cases_lt}
use Rattle.curve.specs.declared.points.Point.{Point}
use Rattle.curve.specs.Curve.{no_point, span, reads, climbing}
use Rattle.curve.specs.Lines.{between_start}
use Rattle.curve.specs.Runs.{Over, Under, reads_low, reads_high, reads_mono, reads_between, reads_past, rises_at}
use Rattle.network.specs.Tables.{point_right, points_right, run_right, quickest}

-- what the tests tell
pub point_tells : (p : Point) → point_right p ≡ true → (p.departure ≤ 100000) × (p.departure < p.arrival) × (p.arrival ≤ p.departure + 10000)
point_tells p e =
    let a = and_parts _ _ e in let b = and_parts _ _ a.1 in
    (leb-true _ _ a.0, ltb-true _ _ b.0, leb-true _ _ b.1)

pub points_tell : (p : Point) (ps : List Point) → points_right (p ∷ ps) ≡ true → (point_right p ≡ true) × (points_right ps ≡ true)
points_tell p ps e = and_parts _ _ e

pub right_at : (ps : List Point) (i : ℕ) → points_right ps ≡ true → i < length ps → point_right (slice_index_or ps i no_point) ≡ true
right_at ps i e = AllPass-from_list_all point_right ps e i no_point

pub record Right (ps : List Point) : Type 0 where
  pub begins : (get_or ps 0 no_point).departure ≡ 0
  pub climbs : climbing ps ≡ true
  pub points : points_right ps ≡ true

pub right_tells : (ps : List Point) → run_right ps ≡ true → Right ps
right_tells ps e =
    let a = and_parts _ _ e in let b = and_parts _ _ a.1 in
    record { begins = eqb-true _ _ a.0; climbs = b.0; points = b.1 }

-- the test of the points from what it tells, point by point
pub points_from_each : (ps : List Point) → ((i : ℕ) → i < length ps → point_right (slice_index_or ps i no_point) ≡ true) → points_right ps ≡ true
points_from_each ps f = list_all-from_AllPass point_right ps (All-from_get_or (λ p. point_right p ≡ true) ps no_point f)

-- the quickest point bounds every point
pub fold_min_le : (l : ℕ) (xs : List ℕ) → fold min l xs ≤ l
fold_min_le l [] = omega arith
fold_min_le l (x ∷ xs) = let r = fold_min_le (min l x) xs in omega arith

over : (k l : ℕ) (ps : List Point) → points_right ps ≡ true → k ≤ fold min l (map span ps) → Over k ps
over k l [] e h = tt
over k l (p ∷ ps) e h =
    let t = points_tell p ps e in let n = point_tells p t.0 in
    let r = fold_min_le (min l (span p)) (map span ps) in
    (omega arith, over k (min l (span p)) ps t.1 h)

pub quickest_over : (ps : List Point) → points_right ps ≡ true → Over (quickest ps) ps
quickest_over [] e = tt
quickest_over (p ∷ ps) e =
    let t = points_tell p ps e in let n = point_tells p t.0 in
    let r = fold_min_le (span p) (map span ps) in
    (omega arith, over (fold min (span p) (map span ps)) (span p) ps t.1 (omega arith))

under : (ps : List Point) → points_right ps ≡ true → Under 10000 ps
under [] e = tt
under (p ∷ ps) e = let t = points_tell p ps e in let n = point_tells p t.0 in (omega arith, n.2, under ps t.1)

-- the quickest point is one of the run's
pub record Quickest (ps : List Point) : Type 0 where
  pub place : ℕ
  pub inside : place < length ps
  pub takes : span (slice_index_or ps place no_point) ≡ quickest ps

fold_min_at : (l : ℕ) (ps : List Point) → (fold min l (map span ps) ≡ l) ⊎ ((i : ℕ) × ((i < length ps) × (span (slice_index_or ps i no_point) ≡ fold min l (map span ps))))
fold_min_at l [] = inl refl
fold_min_at l (p ∷ ps) =
    elim (fold_min_at (min l (span p)) ps) [
      | inl e ↦ elim (cases_lt (span p) l) [
        | inl h ↦ inr (0, (omega arith, omega arith))
        | inr h ↦ inl (omega arith)
      ]
      | inr w ↦ inr (suc w.0, (let k = w.1.0 in omega arith, w.1.1))
    ]

pub quickest_at : (ps : List Point) → 0 < length ps → Quickest ps
quickest_at [] h = absurd (not-suc-le-zero h)
quickest_at (p ∷ ps) h =
    elim (fold_min_at (span p) ps) [
      | inl e ↦ record { place = 0; inside = h; takes = omega arith }
      | inr w ↦ record { place = suc w.0; inside = let k = w.1.0 in omega arith; takes = w.1.1 }
    ]

-- at a point a run reads that point's arrival
pub reads_at : (ps : List Point) (i : ℕ) → climbing ps ≡ true → i < length ps → (get_or ps i no_point).departure ≤ (get_or ps i no_point).arrival → reads ps (get_or ps i no_point).departure ≡ (get_or ps i no_point).arrival
reads_at ps i e h k =
    let p = get_or ps i no_point in
    elim (cases_lt (i + 1) (length ps)) [
      | inl more ↦ reads_between ps i p.departure e more (omega arith) (rises_at ps i e more).0 ∙ between_start p (slice_index_or ps (i + 1) no_point) p.departure refl
      | inr last ↦ let a = reads_past ps i p.departure e (omega arith) (omega arith) in omega arith
    ]

module _ (ps : List Point) (right : run_right ps ≡ true) (some : 0 < length ps) where
  pub run_takes : 1 ≤ quickest ps
  run_takes =
      let q = quickest_at ps some in
      let n = point_tells (slice_index_or ps q.place no_point) (right_at ps q.place (right_tells ps right).points q.inside) in
      let e = q.takes in
      omega arith

  pub run_early : (x : ℕ) → x + quickest ps ≤ reads ps x
  run_early x =
      let r = right_tells ps right in
      reads_low ps x (quickest ps) r.climbs (quickest_over ps r.points) (let b = r.begins in omega arith) some

  pub run_late : (x : ℕ) → reads ps x ≤ x + 10000
  run_late x = let r = right_tells ps right in reads_high ps x 10000 r.climbs (under ps r.points) (let b = r.begins in omega arith)

  pub run_order : (x y : ℕ) → x ≤ y → reads ps x ≤ reads ps y
  run_order x y h = let r = right_tells ps right in reads_mono ps x y r.climbs (let b = r.begins in omega arith) h

  -- some minute takes exactly the quickest point's time: that point's departure
  pub run_attained : (x : ℕ) × (reads ps x ≡ x + quickest ps)
  run_attained =
      let q = quickest_at ps some in
      let p = get_or ps q.place no_point in
      let r = right_tells ps right in
      let n = point_tells p (right_at ps q.place r.points q.inside) in
      let e = q.takes in
      let a = reads_at ps q.place r.climbs q.inside (omega arith) in
      (p.departure, omega arith)
