-- A label as it is written, point by point.
use Rattle.std.proofs.Common.{◌≡◌, ℕ, ◌+◌, ◌<◌, List, [], ◌∷◌, ◌++◌, length, take, set, sym, ap, subst, inl, inr, arith}
use Rattle.std.proofs.lemmas.Bool.{cases_lt}
use Rattle.std.proofs.lemmas.List.{take_more_set, length_push, length-take-le}
use Rattle.curve.specs.declared.points.Point.{Point}
use Rattle.corridor.specs.Corridor.{Next, Stands}
use Rattle.corridor.specs.Curves.{Curves, Label, curve_of, last}
use Rattle.corridor.specs.Laws.{Begins}
use Rattle.corridor.proofs.Made.{next_stands}
use Rattle.corridor.proofs.Once.{begins_more, begins_all, label_longer, label_once}

module _ (lo up : List ℕ) (curves : Curves lo up) where
  abbrev SoFar : List Point → Point → Type 0
  SoFar ps q = Begins (curve_of lo) (curve_of up) (last lo) ps q

  -- the point p is written, and the next after it is r
  pub written_more : (out : List Point) (i : ℕ) (p r : Point) → i < length out → SoFar (take i out ++ p ∷ []) p → Next (curve_of lo) (curve_of up) (length lo) p r
      → SoFar (take (i + 1) (set out i p) ++ r ∷ []) r × Stands (curve_of lo) (curve_of up) (last lo) r
  written_more out i p r room h next =
      let e : length lo ≡ last lo + 1 = omega (arith, curves.some) in
      let n = subst (λ (n : ℕ). Next (curve_of lo) (curve_of up) n p r) e next in
      let more = begins_more (curve_of lo) (curve_of up) (last lo) (take i out ++ p ∷ []) p r h n in
      (subst (λ (ps : List Point). SoFar (ps ++ r ∷ []) r) (sym (take_more_set out i p room)) more, next_stands (curve_of lo) (curve_of up) (last lo) curves.ordered p r n)

  -- the point p is written, and is at the last minute
  pub written_all : (out : List Point) (i : ℕ) (p : Point) → i < length out → SoFar (take i out ++ p ∷ []) p → p.departure + 1 ≡ length lo → Label lo up (take (i + 1) (set out i p))
  written_all out i p room h end =
      subst (Label lo up) (sym (take_more_set out i p room)) (begins_all (curve_of lo) (curve_of up) (last lo) (take i out ++ p ∷ []) p h (omega (arith, end)))

  -- the point p is written in the last place, and is not at the last minute
  pub written_full : (out : List Point) (i : ℕ) (p : Point) → i + 1 ≡ length out → SoFar (take i out ++ p ∷ []) p → Stands (curve_of lo) (curve_of up) (last lo) p → (p.departure + 1 ≡ length lo → ⊥)
      → (ps : List Point) → Label lo up ps → length out < length ps
  written_full out i p end h stands early ps label =
      let long = length_push (take i out) p in
      let size = length-take-le i out (omega (arith, end)) in
      let before : p.departure < last lo = omega (arith, early, stands.inside, curves.some) in
      omega (arith, long, size, end, label_longer (curve_of lo) (curve_of up) (last lo) (take i out ++ p ∷ []) ps p h before label)

  -- no place is left for the point p
  pub written_short : (out : List Point) (p : Point) → SoFar (out ++ p ∷ []) p → Stands (curve_of lo) (curve_of up) (last lo) p
      → (ps : List Point) → Label lo up ps → length out < length ps
  written_short out p h stands ps label =
      let long = length_push out p in
      elim (cases_lt p.departure (last lo)) [
        | inl before ↦ omega (arith, long, label_longer (curve_of lo) (curve_of up) (last lo) (out ++ p ∷ []) ps p h before label)
        | inr end ↦
            let all = begins_all (curve_of lo) (curve_of up) (last lo) (out ++ p ∷ []) p h (omega (arith, end, stands.inside)) in
            omega (arith, long, ap length (label_once (curve_of lo) (curve_of up) (last lo) (out ++ p ∷ []) ps all label))
      ]
