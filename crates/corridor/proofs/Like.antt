-- A label hangs on the heights from 0 to H alone.
use Rattle.std.proofs.Common.{◌≡◌, ℕ, ◌+◌, ◌<◌, ◌≤◌, List, [], ◌∷◌, sym, ap, ◌∙◌, subst, inl, inr, arith}
use Rattle.curve.specs.declared.points.Point.{Point}
use Rattle.corridor.specs.Corridor.{Serves, Next, Onwards, point}
use Rattle.corridor.specs.Laws.{LabelLike}

serves_like : (lo up lo' up' : ℕ → ℕ) (H : ℕ) → ((t : ℕ) → t ≤ H → lo t ≡ lo' t) → ((t : ℕ) → t ≤ H → up t ≡ up' t)
    → (p : Point) (s z : ℕ) → s < H + 1 → Serves lo up p s z → Serves lo' up' p s z
serves_like lo up lo' up' H l u p s z in_time h =
    record {
      climbs = h.climbs;
      above = λ t a b. omega (arith, l t (omega arith), h.above t a b);
      below = λ t a b. omega (arith, u t (omega arith), h.below t a b);
    }

module _ (lo up lo' up' : ℕ → ℕ) (H : ℕ) (l : (t : ℕ) → t ≤ H → lo t ≡ lo' t) (u : (t : ℕ) → t ≤ H → up t ≡ up' t) where
  back : (p : Point) (s z z' : ℕ) → s < H + 1 → z ≡ z' → Serves lo' up' p s z' → Serves lo up p s z
  back p s z z' in_time e h =
      serves_like lo' up' lo up H (λ t a. sym (l t a)) (λ t a. sym (u t a)) p s z in_time (subst (λ (y : ℕ). Serves lo' up' p s y) (sym e) h)

  next_like : (p q : Point) → Next lo up (H + 1) p q → Next lo' up' (H + 1) p q
  next_like p q h =
      let s = q.departure in
      let in_time = h.inside in
      record {
        later = h.later;
        inside = in_time;
        serves = serves_like lo up lo' up' H l u p s q.arrival in_time h.serves;
        chosen = elim h.chosen [
          | inl e ↦ inl (e ∙ l s (omega arith))
          | inr e ↦ inr (e.0 ∙ u s (omega arith), λ k. e.1 (back p s _ _ in_time (l s (omega arith)) k))
        ];
        farthest_lo = λ x a b k. h.farthest_lo x a b (back p x _ _ b (l x (omega arith)) k);
        farthest_up = λ x a b k. h.farthest_up x a b (back p x _ _ b (u x (omega arith)) k);
      }

  onwards_like : (p : Point) (ps : List Point) → Onwards lo up H p ps → Onwards lo' up' H p ps
  onwards_like p [] h = h
  onwards_like p (q ∷ ps) h = (next_like p q h.0, onwards_like q ps h.1)

pub label_like : LabelLike
label_like lo up lo' up' H [] l u h = h
label_like lo up lo' up' H (p ∷ ps) l u h = (h.0 ∙ ap (point 0) (l 0 (omega arith)), onwards_like lo up lo' up' H l u p ps h.1)
