-- The laws of reading a run of points.
use Rattle.std.specs.Prelude.{◌≡◌, ℕ, zero, suc, ◌+◌, ◌<◌, ◌≤◌, Bool, true, cond, List, [], ◌∷◌, length, get_or, nat_lt, slice_index_or, drop, refl}
use Rattle.std.proofs.Common.{sym, ap, subst, ◌∙◌, arith, le_trans, not-suc-le-zero, lt-ltb, le-ltb}
use Rattle.std.proofs.lemmas.Bool.{cond_both, ltb-true, ltb-false, leb-true, and_parts, and_from}
use Rattle.std.proofs.lemmas.List.{get_or_default}
use Rattle.std.proofs.lemmas.List.Sorted.{IsNonDecreasingBy-from_all_adjacent}
use Rattle.std.specs.List.Sorted.{IsNonDecreasingBy}
use Rattle.curve.specs.declared.points.Point.{Point}
use Rattle.curve.specs.Curve.{no_point, span, between, along, reads, climbs, climbing_from, climbing}
use Rattle.curve.specs.Lines.{between_start, between_from, between_to, between_mono, between_low, between_high}

-- what the tests tell
pub climbs_tells : (p q : Point) → climbs p q ≡ true → (p.departure < q.departure) × (p.arrival ≤ q.arrival)
climbs_tells p q e = let a = and_parts _ _ e in (ltb-true _ _ a.0, leb-true _ _ a.1)

pub climbing_tells : (p q : Point) (qs : List Point) → climbing_from p (q ∷ qs) ≡ true → (climbs p q ≡ true) × (climbing_from q qs ≡ true)
climbing_tells p q qs e = and_parts _ _ e

-- each point takes at least l
abbrev pub Over : ℕ → List Point → Type 0
Over l [] = Unit {0}
Over l (q ∷ qs) = (q.departure + l ≤ q.arrival) × Over l qs

-- each point takes at most l, and none arrives before it sets out
abbrev pub Under : ℕ → List Point → Type 0
Under l [] = Unit {0}
Under l (q ∷ qs) = (q.departure ≤ q.arrival) × (q.arrival ≤ q.departure + l) × Under l qs

-- x is before b or not
by : (x b u v : ℕ) (P : ℕ → Type 0) → (x < b → P u) → (b ≤ x → P v) → P (cond (nat_lt x b) u v)
by x b u v P f g = cond_both (nat_lt x b) u v P (λ e. f (ltb-true x b e)) (λ e. g (ltb-false x b e))

pub along_low : (p : Point) (ps : List Point) (x l : ℕ) → climbing_from p ps ≡ true → Over l (p ∷ ps) → p.departure ≤ x → x + l ≤ along p ps x
unfolding along
along_low p [] x l e o h = let a = o.0 in omega arith
along_low p (q ∷ qs) x l e o h =
    let t = climbing_tells p q qs e in let c = climbs_tells p q t.0 in
    by x q.departure (between p q x) (along q qs x) (λ a. x + l ≤ a)
    (λ b. between_low p q x l c.0 c.1 o.0 o.1.0 h (omega arith))
    (λ b. along_low q qs x l t.1 o.1 b)

pub along_high : (p : Point) (ps : List Point) (x l : ℕ) → climbing_from p ps ≡ true → Under l (p ∷ ps) → p.departure ≤ x → along p ps x ≤ x + l
unfolding along
along_high p [] x l e o h = let a = o.0 in let b = o.1 in omega arith
along_high p (q ∷ qs) x l e o h =
    let t = climbing_tells p q qs e in let c = climbs_tells p q t.0 in
    by x q.departure (between p q x) (along q qs x) (λ a. a ≤ x + l)
    (λ b. between_high p q x l c.1 o.1 o.2.1 o.0 h (omega arith))
    (λ b. along_high q qs x l t.1 o.2 b)

-- no arrival from the point p on is before its own
pub along_from : (p : Point) (ps : List Point) (x : ℕ) → climbing_from p ps ≡ true → p.departure ≤ x → p.arrival ≤ along p ps x
unfolding along
along_from p [] x e h = omega arith
along_from p (q ∷ qs) x e h =
    let t = climbing_tells p q qs e in let c = climbs_tells p q t.0 in
    by x q.departure (between p q x) (along q qs x) (λ a. p.arrival ≤ a)
    (λ b. between_from p q x)
    (λ b. let r = along_from q qs x t.1 b in omega arith)

pub along_mono : (p : Point) (ps : List Point) (x y : ℕ) → climbing_from p ps ≡ true → p.departure ≤ x → x ≤ y → along p ps x ≤ along p ps y
unfolding along
along_mono p [] x y e h k = omega arith
along_mono p (q ∷ qs) x y e h k =
    let t = climbing_tells p q qs e in let c = climbs_tells p q t.0 in
    by x q.departure (between p q x) (along q qs x) (λ a. a ≤ along p (q ∷ qs) y)
    (λ b. by y q.departure (between p q y) (along q qs y) (λ a. between p q x ≤ a)
    (λ d. between_mono p q x y c.0 k)
    (λ d. le_trans (between_to p q x c.0 c.1 (omega arith)) (along_from q qs y t.1 d)))
    (λ b. by y q.departure (between p q y) (along q qs y) (λ a. along q qs x ≤ a)
    (λ d. absurd (omega arith))
    (λ d. along_mono q qs x y t.1 b k))

-- at its first point a run reads that point's arrival
pub along_start : (p : Point) (ps : List Point) → p.departure ≤ p.arrival → climbing_from p ps ≡ true → along p ps p.departure ≡ p.arrival
unfolding along
along_start p [] h e = omega arith
along_start p (q ∷ qs) h e =
    let t = climbing_tells p q qs e in let c = climbs_tells p q t.0 in
    ap (λ (b : Bool). cond b (between p q p.departure) (along q qs p.departure)) (lt-ltb p.departure q.departure c.0) ∙ between_start p q p.departure refl

-- of a whole run
pub reads_low : (ps : List Point) (x l : ℕ) → climbing ps ≡ true → Over l ps → (get_or ps 0 no_point).departure ≤ x → 0 < length ps → x + l ≤ reads ps x
unfolding reads
reads_low [] x l e o h n = absurd (not-suc-le-zero n)
reads_low (p ∷ ps) x l e o h n = along_low p ps x l e o h

pub reads_high : (ps : List Point) (x l : ℕ) → climbing ps ≡ true → Under l ps → (get_or ps 0 no_point).departure ≤ x → reads ps x ≤ x + l
unfolding reads
reads_high [] x l e o h = omega arith
reads_high (p ∷ ps) x l e o h = along_high p ps x l e o h

pub reads_mono : (ps : List Point) (x y : ℕ) → climbing ps ≡ true → (get_or ps 0 no_point).departure ≤ x → x ≤ y → reads ps x ≤ reads ps y
unfolding reads
reads_mono [] x y e h k = k
reads_mono (p ∷ ps) x y e h k = along_mono p ps x y e h k

-- where the points climb, each is after those before it
pub climbs_at : (ps : List Point) (i : ℕ) → climbing ps ≡ true → i + 1 < length ps → climbs (slice_index_or ps i no_point) (slice_index_or ps (i + 1) no_point) ≡ true
climbs_at [] i e h = absurd (omega (arith, h))
climbs_at (p ∷ []) i e h = absurd (omega (arith, h))
climbs_at (p ∷ (q ∷ qs)) zero e h = (climbing_tells p q qs e).0
climbs_at (p ∷ (q ∷ qs)) (suc i) e h =
    let k : i + 1 < length (q ∷ qs) = omega arith in
    let r = climbs_at (q ∷ qs) i (climbing_tells p q qs e).1 k in
    let s : suc i + 1 ≡ suc (i + 1) = omega arith in
    subst (λ (j : ℕ). climbs (slice_index_or (q ∷ qs) i no_point) (slice_index_or (p ∷ (q ∷ qs)) j no_point) ≡ true) (sym s) r

-- points climb where each climbs to the next
pub climbing_from_pairs : (ps : List Point) → ((i : ℕ) → i + 1 < length ps → climbs (slice_index_or ps i no_point) (slice_index_or ps (i + 1) no_point) ≡ true) → climbing ps ≡ true
climbing_from_pairs [] f = refl
climbing_from_pairs (p ∷ []) f = refl
climbing_from_pairs (p ∷ (q ∷ qs)) f =
    and_from _ _ (f 0 (omega arith))
    (climbing_from_pairs (q ∷ qs) (λ i h.
    let e : suc i + 1 ≡ suc (i + 1) = omega arith in
    subst (λ (j : ℕ). climbs (slice_index_or (q ∷ qs) i no_point) (slice_index_or (p ∷ (q ∷ qs)) j no_point) ≡ true) e (f (suc i) (omega arith))))

pub rises_at : (ps : List Point) (i : ℕ) → climbing ps ≡ true → i + 1 < length ps → ((get_or ps i no_point).departure < (get_or ps (i + 1) no_point).departure) × ((get_or ps i no_point).arrival ≤ (get_or ps (i + 1) no_point).arrival)
rises_at ps i e h = climbs_tells (slice_index_or ps i no_point) (slice_index_or ps (i + 1) no_point) (climbs_at ps i e h)

-- the points after the first climb too
pub climbing_after : (ps : List Point) → climbing ps ≡ true → climbing (drop 1 ps) ≡ true
climbing_after [] e = e
climbing_after (p ∷ []) e = e
climbing_after (p ∷ (q ∷ qs)) e = (climbing_tells p q qs e).1

-- no point sets out before one that stands before it
pub departures_rise : (ps : List Point) → climbing ps ≡ true → IsNonDecreasingBy (λ (p : Point). p.departure) ps
departures_rise ps e = IsNonDecreasingBy-from_all_adjacent (λ (p : Point). p.departure) ps
    (λ k d h.
    let here = ap (λ (p : Point). p.departure) (get_or_default ps k d no_point (omega arith)) in
    let next = ap (λ (p : Point). p.departure) (get_or_default ps (k + 1) d no_point h) in
    omega (arith, here, next, (rises_at ps k e h).0))

-- between two points next to each other a run reads their line
pub reads_between : (ps : List Point) (i x : ℕ) → climbing ps ≡ true → i + 1 < length ps → (get_or ps i no_point).departure ≤ x → x < (get_or ps (i + 1) no_point).departure → reads ps x ≡ between (slice_index_or ps i no_point) (slice_index_or ps (i + 1) no_point) x
unfolding reads along
reads_between [] i x e h a b = absurd (omega (arith, h))
reads_between (p ∷ []) i x e h a b = absurd (omega (arith, h))
reads_between (p ∷ (q ∷ qs)) zero x e h a b = ap (λ (c : Bool). cond c (between p q x) (along q qs x)) (lt-ltb x q.departure b)
reads_between (p ∷ (q ∷ qs)) (suc i) x e h a b =
    let k : i + 1 < length (q ∷ qs) = omega arith in
    let s : suc i + 1 ≡ suc (i + 1) = omega arith in
    let t = climbing_tells p q qs e in
    let b' : x < (get_or (q ∷ qs) (i + 1) no_point).departure = subst (λ (j : ℕ). x < (get_or (p ∷ (q ∷ qs)) j no_point).departure) s b in
    let past : q.departure ≤ x = le_trans (departures_rise (q ∷ qs) t.1 0 i no_point (omega arith) (omega arith)) a in
    let r = reads_between (q ∷ qs) i x t.1 k a b' in
    subst (λ (j : ℕ). along p (q ∷ qs) x ≡ between (slice_index_or (q ∷ qs) i no_point) (slice_index_or (p ∷ (q ∷ qs)) j no_point) x) (sym s)
    (ap (λ (c : Bool). cond c (between p q x) (along q qs x)) (le-ltb x q.departure past) ∙ r)

-- after the last point the time that passes stays
pub reads_past : (ps : List Point) (i x : ℕ) → climbing ps ≡ true → i + 1 ≡ length ps → (get_or ps i no_point).departure ≤ x → reads ps x ≡ x + span (slice_index_or ps i no_point)
unfolding reads along
reads_past [] i x e h a = absurd (omega (arith, h))
reads_past (p ∷ []) zero x e h a = refl
reads_past (p ∷ []) (suc i) x e h a = absurd (omega (arith, h))
reads_past (p ∷ (q ∷ qs)) zero x e h a = absurd (omega (arith, h))
reads_past (p ∷ (q ∷ qs)) (suc i) x e h a =
    let t = climbing_tells p q qs e in
    let past : q.departure ≤ x = le_trans (departures_rise (q ∷ qs) t.1 0 i no_point (omega arith) (omega arith)) a in
    let r = reads_past (q ∷ qs) i x t.1 (omega arith) a in
    ap (λ (c : Bool). cond c (between p q x) (along q qs x)) (le-ltb x q.departure past) ∙ r
