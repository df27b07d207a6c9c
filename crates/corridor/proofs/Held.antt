-- What a label reads: its points where they stand, and from lo to up at every minute.
use Rattle.std.proofs.Common.{◌≡◌, ℕ, suc, ◌+◌, ◌-◌, ◌<◌, ◌≤◌, true, List, [], ◌∷◌, length, get_or, sym, refl, ◌∙◌, subst, inl, inr, arith}
use Rattle.std.proofs.lemmas.Bool.{cases_lt}
use Rattle.curve.specs.declared.points.Point.{Point}
use Rattle.curve.specs.Curve.{no_point, reads, climbing}
use Rattle.curve.specs.Lines.{between_start}
use Rattle.curve.specs.Runs.{climbs_at, climbs_tells, reads_between, reads_past, reads_mono}
use Rattle.corridor.specs.Laws.{LabelExact, LabelHeld, LabelRises}
use Rattle.corridor.proofs.Spans.{label_spans, label_stands, label_steps}

-- a climbing run reads a point where it stands; the last, if who sets out there does not arrive before
reads_point : (ps : List Point) (i : ℕ) → climbing ps ≡ true → i < length ps → (i + 1 ≡ length ps → (get_or ps i no_point).departure ≤ (get_or ps i no_point).arrival)
    → reads ps (get_or ps i no_point).departure ≡ (get_or ps i no_point).arrival
reads_point ps i c l last =
    let p = get_or ps i no_point in
    elim (cases_lt (i + 1) (length ps)) [
      | inl more ↦
          let later = (climbs_tells p (get_or ps (i + 1) no_point) (climbs_at ps i c more)).0 in
          reads_between ps i p.departure c more (omega arith) later ∙ between_start p (get_or ps (i + 1) no_point) p.departure refl
      | inr done ↦
          let e : i + 1 ≡ length ps = omega arith in
          let r = reads_past ps i p.departure c e (omega arith) in
          omega (arith, last e)
    ]

-- where among the points minute t lies: at or after the point at i, and before the one after it
record Place (ps : List Point) (t : ℕ) : Type 0 where
  i : ℕ
  room : i < length ps
  from : (get_or ps i no_point).departure ≤ t
  to : i + 1 < length ps → t < (get_or ps (i + 1) no_point).departure

place : (p : Point) (ps : List Point) (t : ℕ) → p.departure ≤ t → Place (p ∷ ps) t
place p [] t l = record { i = 0; room = omega arith; from = l; to = λ m. absurd (omega (arith, m)) }
place p (q ∷ ps) t l =
    elim (cases_lt t q.departure) [
      | inl before ↦ record { i = 0; room = omega arith; from = l; to = λ _. before }
      | inr after ↦
          let there = place q ps t after in
          let room = there.room in
          let e : suc (there.i + 1) ≡ suc there.i + 1 = omega arith in
          record {
            i = suc there.i;
            room = omega arith;
            from = there.from;
            to = λ m. subst (λ (j : ℕ). t < (get_or (p ∷ (q ∷ ps)) j no_point).departure) e (there.to (omega arith));
          }
    ]

place_in : (ps : List Point) (t : ℕ) → 0 < length ps → (get_or ps 0 no_point).departure ≤ t → Place ps t
place_in [] t some l = absurd (omega (arith, some))
place_in (p ∷ ps) t some l = place p ps t l

pub label_exact : LabelExact
label_exact lo up H ps o late h i l =
    let spans = label_spans lo up H ps h in
    let stands = label_stands lo up H ps o h i l in
    reads_point ps i spans.climbs l
    (λ e.
    let at : length ps - 1 ≡ i = omega arith in
    let final : (get_or ps i no_point).departure ≡ H = subst (λ (j : ℕ). (get_or ps j no_point).departure ≡ H) at spans.final in
    let high : lo H ≤ (get_or ps i no_point).arrival = subst (λ (t : ℕ). lo t ≤ (get_or ps i no_point).arrival) final stands.above in
    omega arith)

pub label_held : LabelHeld
label_held lo up H ps o late h t l =
    let spans = label_spans lo up H ps h in
    let at = place_in ps t spans.some (omega (arith, spans.first)) in
    let i = at.i in
    let p = get_or ps i no_point in
    let Held : ℕ → Type 0 = λ v. (lo t ≤ v) × (v ≤ up t) in
    elim (cases_lt p.departure t) [
      | inl after ↦ elim (cases_lt (i + 1) (length ps)) [
        | inl more ↦
            let step = label_steps lo up H ps h i more in
            subst Held (sym (reads_between ps i t spans.climbs more at.from (at.to more))) (step.serves.above t after (at.to more), step.serves.below t after (at.to more))
        | inr done ↦
            let end : length ps - 1 ≡ i = omega (arith, at.room) in
            let final : p.departure ≡ H = subst (λ (j : ℕ). (get_or ps j no_point).departure ≡ H) end spans.final in
            absurd (omega (arith, final))
      ]
      | inr here ↦
          let e : p.departure ≡ t = omega (arith, at.from) in
          let stands = label_stands lo up H ps o h i at.room in
          let r : reads ps t ≡ p.arrival = subst (λ (x : ℕ). reads ps x ≡ p.arrival) e (label_exact lo up H ps o late h i at.room) in
          subst Held (sym r) (subst (λ (x : ℕ). (lo x ≤ p.arrival) × (p.arrival ≤ up x)) e (stands.above, stands.below))
    ]

pub label_rises : LabelRises
label_rises lo up H ps h t u l = let spans = label_spans lo up H ps h in reads_mono ps t u spans.climbs (omega (arith, spans.first)) l
