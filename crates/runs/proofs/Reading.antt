-- What a label and a row read.
use Rattle.std.proofs.Common.{◌≡◌, ℕ, zero, suc, ◌+◌, ◌-◌, ◌<◌, ◌≤◌, Bool, true, false, cond, List, [], ◌∷◌, length, get_or, sym, refl, ap, ◌∙◌, subst, suc-le-suc, le_trans, arith, lt-ltb, le-leb}
use Rattle.curve.specs.declared.points.Point.{Point}
use Rattle.curve.specs.Curve.{no_point, reads, climbing}
use Rattle.curve.specs.Runs.{Over, reads_low, reads_high, reads_mono, reads_past, reads_between, rises_at}
use Rattle.curve.specs.Lines.{between_start}
use Rattle.rows.specs.Rows.{points, laid_back}
use Rattle.runs.specs.declared.Figures.{Figures}
use Rattle.runs.specs.declared.heading.Heading.{Heading}
use Rattle.runs.specs.Sheet.{any, at, diagonal, label, labelled, row}
use Rattle.runs.specs.Formed.{Label, Row, blank, holds, latest, Laid}
use Rattle.runs.specs.Once.{blank_points}
use Rattle.runs.proofs.Rows.{count_points}

-- each point takes at least l, from index to index
over_of : (l : ℕ) (ps : List Point) → ((i : ℕ) → i < length ps → (get_or ps i no_point).departure + l ≤ (get_or ps i no_point).arrival) → Over l ps
over_of l [] h = tt
over_of l (p ∷ ps) h = (h 0 (omega arith), over_of l ps (λ i lt. h (suc i) (suc-le-suc lt)))

module _ (H limit : ℕ) (ps : List Point) (lab : Label H limit ps) where
  -- the last point
  abbrev end : ℕ
  end = length ps - 1

  pub label_last : reads ps H ≡ (get_or ps end no_point).arrival
  label_last =
      let two = lab.two in
      let e = reads_past ps end H lab.climbs (omega arith) (omega (arith, lab.ends)) in
      omega (arith, e, lab.ends, lab.prompt end (omega arith))

  pub label_high : (t : ℕ) → t ≤ H → reads ps t ≤ limit
  label_high t le =
      let two = lab.two in
      le_trans (reads_mono ps t H lab.climbs (omega (arith, lab.starts)) le) (omega (arith, label_last, lab.early end (omega arith)))

  pub label_low : (t : ℕ) → t ≤ reads ps t
  label_low t =
      let two = lab.two in
      let o : Over 0 ps = over_of 0 ps (λ i lt. omega (arith, lab.prompt i lt)) in
      omega (arith, reads_low ps t 0 lab.climbs o (omega (arith, lab.starts)) (omega arith))

  pub label_mono : (t u : ℕ) → t ≤ u → reads ps t ≤ reads ps u
  label_mono t u le = reads_mono ps t u lab.climbs (omega (arith, lab.starts)) le

  -- who sets out at 0 is there at the first point's arrival
  pub label_first : reads ps 0 ≡ (get_or ps 0 no_point).arrival
  label_first =
      let two = lab.two in
      let climbs = rises_at ps 0 lab.climbs (omega arith) in
      reads_between ps 0 0 lab.climbs (omega arith) (omega (arith, lab.starts)) (omega (arith, lab.starts, climbs.0)) ∙ between_start (get_or ps 0 no_point) (get_or ps 1 no_point) 0 (sym lab.starts)

  pub label_there : any ps ≡ true
  label_there = go ps lab.two
    where
      go : (qs : List Point) → 2 ≤ length qs → any qs ≡ true
      go [] h = absurd (omega (arith, h))
      go (q ∷ qs) h = refl

-- the origin's label
pub diagonal_label : (H limit : ℕ) → 1 ≤ H → H ≤ limit → Label H limit (diagonal H)
diagonal_label H limit some le = record {
  two = omega arith;
  climbs = climbs_on;
  starts = refl;
  ends = refl;
  prompt = λ i lt. prompt_at i;
  early = λ i lt. early_at i;
}
  where
    climbs_on : climbing (diagonal H) ≡ true
    climbs_on = rw (lt-ltb 0 H some, le-leb 0 H (omega arith))

    prompt_at : (i : ℕ) → (get_or (diagonal H) i no_point).departure ≤ (get_or (diagonal H) i no_point).arrival
    prompt_at zero = omega arith
    prompt_at (suc zero) = omega arith
    prompt_at (suc (suc i)) = omega arith

    early_at : (i : ℕ) → (get_or (diagonal H) i no_point).arrival ≤ limit
    early_at zero = omega arith
    early_at (suc zero) = le
    early_at (suc (suc i)) = omega arith

pub on_time : (H t : ℕ) → 1 ≤ H → reads (diagonal H) t ≡ t
on_time H t some =
    let lab = diagonal_label H H some (omega arith) in
    let low = label_low H H (diagonal H) lab t in
    let high = reads_high (diagonal H) t 0 lab.climbs (omega arith, omega arith, (omega arith, omega arith, tt)) (omega arith) in
    omega arith

-- what a row holds, by its points
pub row_holds : (P H limit : ℕ) (xs : List ℕ) → Row P H limit xs → any (points xs) ≡ true → Label H limit (points xs) × (length (points xs) ≤ P)
row_holds P H limit xs (blank e) some = absurd (clash (ap (λ (ys : List ℕ). any (points ys)) e ∙ ap any (blank_points P)) some)
  where
    clash : {b : Bool} → b ≡ false → b ≡ true → ⊥
    clash p q = let z : ◌≡◌ {A = ℕ} 0 1 = ap (λ (x : Bool). cond x 1 0) (sym p ∙ q) in omega arith
row_holds P H limit xs (holds ps e fit lab) some =
    let is : ps ≡ points xs = sym (laid_back P ps) ∙ ap points (sym e) in
    (subst (Label H limit) is lab, subst (λ (qs : List Point). length qs ≤ P) is fit)

-- what a node with a label has in its row
pub laid_label : (f : Figures) (rows : List ℕ) → Laid f rows → (v : ℕ) → v < f.nodes → labelled f rows v ≡ true → Label f.window (latest f rows) (label f rows v) × (length (label f rows v) ≤ f.places)
laid_label f rows laid v lt some = row_holds f.places f.window (latest f rows) (row f.places rows v) (laid.holding v lt) some

-- the same, by the row itself
pub record Shows (f : Figures) (rows xs : List ℕ) : Type 0 where
  pub some : 2 ≤ get_or xs 0 0
  pub few : get_or xs 0 0 ≤ f.places
  pub holds_label : Label f.window (latest f rows) (points xs)

pub row_shows : (f : Figures) (rows : List ℕ) → Laid f rows → (v : ℕ) → v < f.nodes → labelled f rows v ≡ true → (xs : List ℕ) → xs ≡ row f.places rows v → Shows f rows xs
row_shows f rows laid v lt some xs is =
    let held = laid_label f rows laid v lt some in
    subst (Shows f rows) (sym is) (record {
      some = omega (arith, count_points (row f.places rows v), held.0.two);
      few = omega (arith, count_points (row f.places rows v), held.1);
      holds_label = held.0;
    })

-- labels that hold the same heading and rows tell the same
pub labelled_as : (h k : Heading) (rows cells : List ℕ) (v : ℕ) → h ≡ k → rows ≡ cells → labelled h.figures rows v ≡ labelled k.figures cells v
labelled_as h k rows cells v e r = ap (λ (x : Heading). labelled x.figures rows v) e ∙ ap (λ (x : List ℕ). labelled k.figures x v) r

pub read_as : (h k : Heading) (rows cells : List ℕ) (v t : ℕ) → h ≡ k → rows ≡ cells → at h.figures rows v t ≡ at k.figures cells v t
read_as h k rows cells v t e r = ap (λ (x : Heading). at x.figures rows v t) e ∙ ap (λ (x : List ℕ). at k.figures x v t) r
