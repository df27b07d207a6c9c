-- A point has one next, so a label is determined.
use Rattle.std.proofs.Common.{◌≡◌, ℕ, ◌+◌, ◌<◌, List, [], ◌∷◌, ◌++◌, length, sym, refl, ap, ◌∙◌, subst, inl, inr, arith}
use Rattle.std.proofs.lemmas.Bool.{cases_order}
use Rattle.curve.specs.declared.points.Point.{Point}
use Rattle.corridor.specs.Corridor.{Serves, Next, Onwards, Corridor, point}
use Rattle.corridor.specs.Laws.{NextOnce, LabelOnce, Leads, Begins, LabelLonger}

same_point : (q r : Point) → q.departure ≡ r.departure → q.arrival ≡ r.arrival → q ≡ r
same_point q r e f = ap (λ (t : ℕ). point t q.arrival) e ∙ ap (λ (y : ℕ). point r.departure y) f

module _ (lo up : ℕ → ℕ) (n : ℕ) (p : Point) where
  -- no next lies beyond another
  not_beyond : (q r : Point) → Next lo up n p q → Next lo up n p r → q.departure < r.departure → ⊥
  not_beyond q r h k far =
      elim k.chosen [
        | inl e ↦ h.farthest_lo r.departure far k.inside (subst (λ z. Serves lo up p r.departure z) e k.serves)
        | inr e ↦ h.farthest_up r.departure far k.inside (subst (λ z. Serves lo up p r.departure z) e.0 k.serves)
      ]

  -- where lo's height is taken, it serves
  lo_serves : (q r : Point) → q.departure ≡ r.departure → q.arrival ≡ lo q.departure → Next lo up n p q → Serves lo up p r.departure (lo r.departure)
  lo_serves q r e a h = subst (λ s. Serves lo up p s (lo s)) e (subst (λ z. Serves lo up p q.departure z) a h.serves)

  same_height : (q r : Point) → q.departure ≡ r.departure → Next lo up n p q → Next lo up n p r → q.arrival ≡ r.arrival
  same_height q r e h k =
      elim h.chosen [
        | inl a ↦ elim k.chosen [ inl b ↦ a ∙ ap lo e ∙ sym b | inr b ↦ elim (b.1 (lo_serves q r e a h)) [ ] ]
        | inr a ↦ elim k.chosen [ inl b ↦ elim (a.1 (lo_serves r q (sym e) b k)) [ ] | inr b ↦ a.0 ∙ ap up e ∙ sym b.0 ]
      ]

pub next_once : NextOnce
next_once lo up n p q r h k =
    elim (cases_order q.departure r.departure) [
      | inl e ↦ same_point q r e (same_height lo up n p q r e h k)
      | inr o ↦ elim o [ inl l ↦ elim (not_beyond lo up n p q r h k l) [ ] | inr l ↦ elim (not_beyond lo up n p r q k h l) [ ] ]
    ]

module _ (lo up : ℕ → ℕ) (H : ℕ) where
  -- nothing follows a point at H
  ends : (p q : Point) → p.departure ≡ H → Next lo up (H + 1) p q → ⊥
  ends p q e h = omega (arith, h.later, h.inside)

  onwards_once : (p : Point) (ps qs : List Point) → Onwards lo up H p ps → Onwards lo up H p qs → ps ≡ qs
  onwards_once p [] [] h k = refl
  onwards_once p [] (q ∷ qs) h k = absurd (ends p q h k.0)
  onwards_once p (q ∷ ps) [] h k = absurd (ends p q k h.0)
  onwards_once p (q ∷ ps) (r ∷ qs) h k =
      let e = next_once lo up (H + 1) p q r h.0 k.0 in
      ap (λ (t : Point). t ∷ ps) e ∙ ap (λ (ts : List Point). r ∷ ts) (onwards_once r ps qs (subst (λ (t : Point). Onwards lo up H t ps) e h.1) k.1)

  leads_shorter : (p : Point) (ps qs : List Point) (q : Point) → Leads lo up H p ps q → q.departure < H → Onwards lo up H p qs → length ps < length qs
  leads_shorter p [] [] q h l k = let e : p.departure ≡ q.departure = ap (λ (t : Point). t.departure) h in absurd (omega (arith, k))
  leads_shorter p [] (r ∷ qs) q h l k = omega arith
  leads_shorter p (r ∷ ps) [] q h l k = absurd (ends p r k h.0)
  leads_shorter p (r ∷ ps) (s ∷ qs) q h l k =
      let e = next_once lo up (H + 1) p r s h.0 k.0 in
      let shorter : length ps < length qs = leads_shorter r ps qs q h.1 l (subst (λ (t : Point). Onwards lo up H t qs) (sym e) k.1) in
      omega arith

  -- one more point of a label's beginning
  leads_more : (p : Point) (ps : List Point) (q r : Point) → Leads lo up H p ps q → Next lo up (H + 1) q r → Leads lo up H p (ps ++ r ∷ []) r
  leads_more p [] q r h n = (subst (λ (t : Point). Next lo up (H + 1) t r) (sym h) n, refl)
  leads_more p (s ∷ ps) q r h n = (h.0, leads_more s ps q r h.1 n)

  pub begins_more : (ps : List Point) (q r : Point) → Begins lo up H ps q → Next lo up (H + 1) q r → Begins lo up H (ps ++ r ∷ []) r
  begins_more [] q r h n = absurd h
  begins_more (p ∷ ps) q r h n = (h.0, leads_more p ps q r h.1 n)

  -- and its end
  leads_all : (p : Point) (ps : List Point) (q : Point) → Leads lo up H p ps q → q.departure ≡ H → Onwards lo up H p ps
  leads_all p [] q h e = ap (λ (t : Point). t.departure) h ∙ e
  leads_all p (s ∷ ps) q h e = (h.0, leads_all s ps q h.1 e)

  pub begins_all : (ps : List Point) (q : Point) → Begins lo up H ps q → q.departure ≡ H → Corridor lo up H ps
  begins_all [] q h e = absurd h
  begins_all (p ∷ ps) q h e = (h.0, leads_all p ps q h.1 e)

pub label_once : LabelOnce
label_once lo up H [] qs h k = absurd h
label_once lo up H (p ∷ ps) [] h k = absurd k
label_once lo up H (p ∷ ps) (q ∷ qs) h k =
    let e : p ≡ q = h.0 ∙ sym k.0 in
    ap (λ (t : Point). t ∷ ps) e ∙ ap (λ (ts : List Point). q ∷ ts) (onwards_once lo up H q ps qs (subst (λ (t : Point). Onwards lo up H t ps) e h.1) k.1)

pub label_longer : LabelLonger
label_longer lo up H [] qs q h l k = absurd h
label_longer lo up H (p ∷ ps) [] q h l k = absurd k
label_longer lo up H (p ∷ ps) (r ∷ qs) q h l k =
    let e : p ≡ r = h.0 ∙ sym k.0 in
    let shorter : length ps < length qs = leads_shorter lo up H p ps qs q h.1 l (subst (λ (t : Point). Onwards lo up H t qs) (sym e) k.1) in
    omega arith
