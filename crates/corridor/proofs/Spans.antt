-- A label's points: they climb from 0 to H and stand in the corridor.
use Rattle.std.proofs.Common.{◌≡◌, ℕ, zero, suc, ◌+◌, ◌-◌, ◌<◌, ◌≤◌, true, List, [], ◌∷◌, length, get_or, sym, refl, ap, subst, add-one, arith, lt-ltb, le-leb}
use Rattle.std.proofs.lemmas.Bool.{and_from}
use Rattle.curve.specs.declared.points.Point.{Point}
use Rattle.curve.specs.Curve.{no_point, climbing_from}
use Rattle.corridor.specs.Corridor.{Next, Onwards, Corridor, Ordered, Stands, point}
use Rattle.corridor.specs.Laws.{LabelSpans, LabelStands}
use Rattle.corridor.proofs.Made.{next_stands}

module _ (lo up : ℕ → ℕ) (H : ℕ) where
  onwards_climbs : (p : Point) (ps : List Point) → Onwards lo up H p ps → climbing_from p ps ≡ true
  onwards_climbs p [] h = refl
  onwards_climbs p (q ∷ ps) h = and_from _ _ (and_from _ _ (lt-ltb _ _ h.0.later) (le-leb _ _ h.0.serves.climbs)) (onwards_climbs q ps h.1)

  onwards_few : (p : Point) (ps : List Point) → Onwards lo up H p ps → p.departure + length ps ≤ H
  onwards_few p [] h = omega (arith, h)
  onwards_few p (q ∷ ps) h = let few = onwards_few q ps h.1 in omega (arith, h.0.later)

  onwards_final : (p : Point) (ps : List Point) → Onwards lo up H p ps → (get_or (p ∷ ps) (length ps) no_point).departure ≡ H
  onwards_final p [] h = h
  onwards_final p (q ∷ ps) h = onwards_final q ps h.1

  onwards_two : (p : Point) (ps : List Point) → Onwards lo up H p ps → p.departure < H → 0 < length ps
  onwards_two p [] h l = absurd (omega (arith, h))
  onwards_two p (q ∷ ps) h l = omega arith

  onwards_steps : (p : Point) (ps : List Point) → Onwards lo up H p ps → (i : ℕ) → i < length ps → Next lo up (H + 1) (get_or (p ∷ ps) i no_point) (get_or ps i no_point)
  onwards_steps p [] h i l = absurd (omega (arith, l))
  onwards_steps p (q ∷ ps) h zero l = h.0
  onwards_steps p (q ∷ ps) h (suc i) l = onwards_steps q ps h.1 i (omega arith)

  onwards_stands : Ordered lo up H → (p : Point) (ps : List Point) → Stands lo up H p → Onwards lo up H p ps → (i : ℕ) → i < length (p ∷ ps) → Stands lo up H (get_or (p ∷ ps) i no_point)
  onwards_stands o p ps here h zero l = here
  onwards_stands o p [] here h (suc i) l = absurd (omega (arith, l))
  onwards_stands o p (q ∷ ps) here h (suc i) l = onwards_stands o q ps (next_stands lo up H o p q h.0) h.1 i (omega arith)

  -- each point of a label is the next after the one before
  pub label_steps : (ps : List Point) → Corridor lo up H ps → (i : ℕ) → i + 1 < length ps → Next lo up (H + 1) (get_or ps i no_point) (get_or ps (i + 1) no_point)
  label_steps [] h i l = absurd h
  label_steps (p ∷ ps) h i l = rw (add-one i) (onwards_steps p ps h.1 i (omega arith))

pub label_spans : LabelSpans
label_spans lo up H [] h = absurd h
label_spans lo up H (p ∷ ps) h =
    let start : p.departure ≡ 0 = ap (λ (t : Point). t.departure) h.0 in
    let few = onwards_few lo up H p ps h.1 in
    let e : length ps ≡ length (p ∷ ps) - 1 = omega arith in
    record {
      climbs = onwards_climbs lo up H p ps h.1;
      some = omega arith;
      two = λ l. omega (arith, onwards_two lo up H p ps h.1 (omega arith));
      few = omega arith;
      first = start;
      final = subst (λ (i : ℕ). (get_or (p ∷ ps) i no_point).departure ≡ H) e (onwards_final lo up H p ps h.1);
    }

pub label_stands : LabelStands
label_stands lo up H [] o h = absurd h
label_stands lo up H (p ∷ ps) o h =
    let start : Stands lo up H (point 0 (lo 0)) = record { inside = omega arith; above = omega arith; below = o 0 (omega arith) } in
    onwards_stands lo up H o p ps (subst (Stands lo up H) (sym h.0) start) h.1
