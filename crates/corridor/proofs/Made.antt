-- Two curves have a label.
use Rattle.std.proofs.Common.{◌≡◌, ℕ, zero, suc, ◌+◌, ◌<◌, ◌≤◌, ◌⊎◌, List, [], ◌∷◌, refl, subst, inl, inr, add-one, arith}
use native.Mathlib.Decide.{le_ind}
use Rattle.std.proofs.lemmas.Bool.{cases_lt}
use Rattle.curve.specs.declared.points.Point.{Point}
use Rattle.curve.specs.Curve.{between}
use Rattle.corridor.specs.Corridor.{Serves, Next, Onwards, Ordered, NeverFalls, Stands, point}
use Rattle.corridor.specs.Laws.{LabelMade}
use Rattle.corridor.proofs.Rule.{next_here, next_on}

-- a test of each minute before n is one of all
all_before : (P : ℕ → Type 0) → ((x : ℕ) → P x ⊎ (P x → ⊥)) → (n : ℕ) → ((x : ℕ) → x < n → P x) ⊎ (((x : ℕ) → x < n → P x) → ⊥)
all_before P each zero = inl (λ x l. let no : ⊥ = omega arith in elim no [ ])
all_before P each (suc n) =
    elim (each n) [
      | inl here ↦ elim (all_before P each n) [
        | inl h ↦ inl (λ x l. elim (cases_lt x n) [ inl a ↦ h x a | inr a ↦ let e : n ≡ x = omega arith in subst P e here ])
        | inr h ↦ inr (λ k. h (λ x l. k x (omega arith)))
      ]
      | inr h ↦ inr (λ k. h (k n (omega arith)))
    ]

module _ (lo up : ℕ → ℕ) (p : Point) where
  abbrev Held : ℕ → ℕ → ℕ → Type 0
  Held s z x = p.departure < x → (lo x ≤ between p (point s z) x) × (between p (point s z) x ≤ up x)

  held_or_not : (s z x : ℕ) → Held s z x ⊎ (Held s z x → ⊥)
  held_or_not s z x =
      elim (cases_lt p.departure x) [
        | inl l ↦ elim (cases_lt (between p (point s z) x) (lo x)) [
          | inl a ↦ inr (λ h. omega (arith, (h l).0))
          | inr a ↦ elim (cases_lt (up x) (between p (point s z) x)) [ inl b ↦ inr (λ h. omega (arith, (h l).1)) | inr b ↦ inl (λ _. (a, b)) ]
        ]
        | inr l ↦ inl (λ h. let no : ⊥ = omega arith in elim no [ ])
      ]

  serves_or_not : (s z : ℕ) → Serves lo up p s z ⊎ (Serves lo up p s z → ⊥)
  serves_or_not s z =
      elim (cases_lt z p.arrival) [
        | inl l ↦ inr (λ h. omega (arith, h.climbs))
        | inr l ↦ elim (all_before (Held s z) (held_or_not s z) s) [
          | inl h ↦ inl (record { climbs = l; above = λ x a b. (h x b a).0; below = λ x a b. (h x b a).1 })
          | inr h ↦ inr (λ k. h (λ x b a. (k.above x a b, k.below x a b)))
        ]
      ]

  -- the farthest of the minutes before s that is reached
  next_before : (H : ℕ) → NeverFalls up H → p.arrival ≤ up p.departure → (s : ℕ) → p.departure + 1 ≤ s → s ≤ H + 1 → p.departure + 1 < s → (q : Point) × Next lo up s p q
  next_before H rising below =
      le_ind (λ s. s ≤ H + 1 → p.departure + 1 < s → (q : Point) × Next lo up s p q)
      (λ _ l. let no : ⊥ = omega arith in elim no [ ])
      (λ s far old room l.
      let low : p.arrival ≤ up s = omega (arith, rising p.departure s (omega arith) (omega arith), below) in
      let later : p.departure < s = omega arith in
      rw (← add-one s)
      (elim (serves_or_not s (lo s)) [
        | inl h ↦ (_, next_here lo up p s later _ h (inl refl))
        | inr no_lo ↦ elim (serves_or_not s (up s)) [
          | inl h ↦ (_, next_here lo up p s later _ h (inr (refl, no_lo)))
          | inr no_up ↦ elim (cases_lt (p.departure + 1) s) [
            | inl a ↦ let q = old (omega arith) a in (q.0, next_on lo up p s later low q.0 (λ _. q.1) no_lo no_up)
            | inr a ↦ (p, next_on lo up p s later low p (λ l. let no : ⊥ = omega arith in elim no [ ]) no_lo no_up)
          ]
        ]
      ]))

module _ (lo up : ℕ → ℕ) (H : ℕ) (ordered : Ordered lo up H) where
  pub next_stands : (p q : Point) → Next lo up (H + 1) p q → Stands lo up H q
  next_stands p q h =
      let in_time : q.departure ≤ H = omega (arith, h.inside) in
      let o = ordered q.departure in_time in
      elim h.chosen [ inl e ↦ record { inside = in_time; above = omega arith; below = omega arith } | inr e ↦ record { inside = in_time; above = omega arith; below = omega arith } ]

  -- fuel is how many minutes are left
  onwards_made : NeverFalls up H → (fuel : ℕ) (p : Point) → Stands lo up H p → H ≤ p.departure + fuel → (ps : List Point) × Onwards lo up H p ps
  onwards_made rising zero p stands left = ([], omega (arith, stands.inside))
  onwards_made rising (suc fuel) p stands left =
      elim (cases_lt p.departure H) [
        | inl l ↦
            let q = next_before lo up p H rising stands.below (H + 1) (omega arith) (omega arith) (omega arith) in
            let rest = onwards_made rising fuel q.0 (next_stands p q.0 q.1) (omega (arith, q.1.later)) in
            (q.0 ∷ rest.0, (q.1, rest.1))
        | inr l ↦ ([], omega (arith, stands.inside))
      ]

pub label_made : LabelMade
label_made lo up H ordered rising =
    let start : Stands lo up H (point 0 (lo 0)) = record { inside = omega arith; above = omega arith; below = ordered 0 (omega arith) } in
    let rest = onwards_made lo up H ordered rising H (point 0 (lo 0)) start (omega arith) in
    (point 0 (lo 0) ∷ rest.0, (refl, rest.1))
