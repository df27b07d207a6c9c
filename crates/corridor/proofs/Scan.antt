-- From the funnel to the corridor rule.
use Rattle.std.proofs.Common.{◌≡◌, ℕ, ◌+◌, ◌-◌, ◌<◌, ◌≤◌, subst, inl, inr, arith}
use Rattle.std.proofs.lemmas.Bool.{cases_lt}
use Rattle.curve.specs.declared.points.Point.{Point}
use Rattle.curve.specs.Lines.{at_least, at_least⁻, at_most, at_most⁻}
use Rattle.corridor.specs.declared.funnel.Funnel.{Funnel}
use Rattle.corridor.specs.Corridor.{Serves, Next, point}
use Rattle.corridor.specs.Funnels.{Admits, Within, Seen, Fits}

-- before the first minute
pub seen_none : (lo up : ℕ → ℕ) (p : Point) (f : Funnel) → ((n m : ℕ) → 0 < m → Admits f n m) → Seen lo up p (p.departure + 1) f
seen_none lo up p f all =
    record { sound = λ n m _ _ x a b. (omega arith, omega arith); whole = λ n m pos _. all n m pos }

module _ (lo up : ℕ → ℕ) (p : Point) (s : ℕ) (f : Funnel) (seen : Seen lo up p s f) (later : p.departure < s) where
  pub serves_if : (z : ℕ) → Fits f p (point s z) → Serves lo up p s z
  serves_if z h =
      let at : (x : ℕ) → p.departure < x → x < s → Within lo up p x (z - p.arrival) (s - p.departure) =
      seen.sound (z - p.arrival) (s - p.departure) (omega arith) h.1 in
      record {
        climbs = h.0;
        above = λ x a b. at_least p (point s z) x (lo x) later (at x a b).0;
        below = λ x a b. at_most p (point s z) x (up x) later (at x a b).1;
      }

  -- also of a line to a later minute
  pub fits_since : (x z : ℕ) → s ≤ x → Serves lo up p x z → Fits f p (point x z)
  fits_since x z far h =
      let on : p.departure < x = omega arith in (
        h.climbs,
        seen.whole (z - p.arrival) (x - p.departure) (omega arith) (λ i a b. let b' : i < x = omega arith in
            (at_least⁻ p (point x z) i (lo i) on (h.above i a b'), at_most⁻ p (point x z) i (up i) on (h.below i a b'))),
      )

  pub serves_only : (z : ℕ) → Serves lo up p s z → Fits f p (point s z)
  serves_only z h = fits_since s z (omega arith) h

  -- no slope is left, so no later minute is reached
  pub next_last : ((n m : ℕ) → Admits f n m → ⊥) → (q : Point) → Next lo up s p q → (n : ℕ) → s ≤ n → Next lo up n p q
  next_last none q h n far =
      record {
        later = h.later;
        inside = omega (arith, h.inside);
        serves = h.serves;
        chosen = h.chosen;
        farthest_lo = λ x a b k. elim (cases_lt x s) [ inl l ↦ h.farthest_lo x a l k | inr l ↦ none _ _ (fits_since x _ l k).1 ];
        farthest_up = λ x a b k. elim (cases_lt x s) [ inl l ↦ h.farthest_up x a l k | inr l ↦ none _ _ (fits_since x _ l k).1 ];
      }

  -- one more minute is seen
  pub seen_more : (r : Funnel) → ((n m : ℕ) → 0 < m → Admits r n m → Admits f n m × Within lo up p s n m)
      → ((n m : ℕ) → 0 < m → Admits f n m → Within lo up p s n m → Admits r n m) → Seen lo up p (s + 1) r
  seen_more r both whole =
      record {
        sound = λ n m pos h x a b. let k = both n m pos h in
            elim (cases_lt x s) [ inl l ↦ seen.sound n m pos k.0 x a l | inr l ↦ let e : s ≡ x = omega arith in subst (λ x. Within lo up p x n m) e k.1 ];
        whole = λ n m pos h. whole n m pos (seen.whole n m pos (λ x a b. h x a (omega arith))) (h s later (omega arith));
      }
