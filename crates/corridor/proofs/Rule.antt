-- One more minute of the rule, however it is found whether a height serves there.
use Rattle.std.proofs.Common.{◌≡◌, ℕ, ◌+◌, ◌<◌, ◌≤◌, ◌⊎◌, subst, inl, inr, arith}
use Rattle.std.proofs.lemmas.Bool.{cases_lt}
use Rattle.curve.specs.declared.points.Point.{Point}
use Rattle.corridor.specs.Corridor.{Serves, Next, point}

module _ (lo up : ℕ → ℕ) (p : Point) (s : ℕ) (later : p.departure < s) where
  -- a height serves at s
  pub next_here : (z : ℕ) → Serves lo up p s z → (z ≡ lo s) ⊎ ((z ≡ up s) × (Serves lo up p s (lo s) → ⊥)) → Next lo up (s + 1) p (point s z)
  next_here z h e =
      record { later = later; inside = omega arith; serves = h; chosen = e; farthest_lo = λ x a b _. omega arith; farthest_up = λ x a b _. omega arith }

  -- none does: up always serves at the minute after p, so s lies farther on
  pub next_on : p.arrival ≤ up s → (q : Point) → (p.departure + 1 < s → Next lo up s p q)
      → (Serves lo up p s (lo s) → ⊥) → (Serves lo up p s (up s) → ⊥) → Next lo up (s + 1) p q
  next_on low q known not_lo not_up =
      let past : p.departure + 1 < s =
      elim (cases_lt (p.departure + 1) s) [ inl l ↦ l | inr l ↦ elim (not_up (record { climbs = low; above = λ x a b. omega arith; below = λ x a b. omega arith })) [ ] ] in
      let old = known past in
      record {
        later = old.later;
        inside = omega (arith, old.inside);
        serves = old.serves;
        chosen = old.chosen;
        farthest_lo = λ x a b h. elim (cases_lt x s) [ inl l ↦ old.farthest_lo x a l h | inr l ↦ let e : x ≡ s = omega arith in not_lo (subst (λ x. Serves lo up p x (lo x)) e h) ];
        farthest_up = λ x a b h. elim (cases_lt x s) [ inl l ↦ old.farthest_up x a l h | inr l ↦ let e : x ≡ s = omega arith in not_up (subst (λ x. Serves lo up p x (up x)) e h) ];
      }
