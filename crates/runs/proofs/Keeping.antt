-- Relaxing a road keeps the rows of a sheet well formed.
use Rattle.std.proofs.Common.{◌≡◌, ℕ, zero, suc, ◌+◌, ◌*◌, ◌<◌, ◌≤◌, min, Bool, true, false, cond, ◌⊎◌, List, [], ◌∷◌, length, sym, refl, ap, ◌∙◌, subst, inl, inr, ⊎_elim, le_trans, mul-le-mul_right, arith}
use native.Mathlib.Nat.{div-le_of_le-mul}
use native.Mathlib.Decide.{ℕ_discrete}
use Rattle.curve.specs.declared.points.Point.{Point}
use Rattle.curve.specs.Curve.{reads}
use Rattle.rows.specs.Rows.{points, laid_out, laid_back}
use Rattle.corridor.specs.Corridor.{Ordered, NeverFalls}
use Rattle.corridor.specs.Laws.{Spans}
use Rattle.corridor.proofs.Laws.{laws as corridor_laws}
use Rattle.network.specs.Net.{Net, Lawful}
use Rattle.runs.specs.declared.Figures.{Figures}
use Rattle.runs.specs.Figured.{Right}
use Rattle.runs.specs.Sheet.{row, any, diagonal, label, labelled, at, allow, over, lo, up, Within}
use Rattle.runs.specs.Formed.{Label, Row, blank, holds, labels_below, latest, Laid}
use Rattle.runs.specs.Turns.{Replaced}
use Rattle.runs.specs.Once.{blank_points}
use Rattle.runs.proofs.Reading.{label_high, label_low, label_mono, on_time, row_holds}

pub clash : {b : Bool} → b ≡ true → b ≡ false → ⊥
clash p q = let z : ◌≡◌ {A = ℕ} 0 1 = ap (λ (x : Bool). cond x 0 1) (sym p ∙ q) in omega arith

pub same : (a b : ℕ) → (a ≡ b) ⊎ (a ≡ b → ⊥)
same a b = elim (ℕ_discrete a b) [ yes e ↦ inl e | no n ↦ inr n ]

pub either : (b : Bool) → (b ≡ true) ⊎ (b ≡ false)
either true = inl refl
either false = inr refl

-- a later limit takes what an earlier one took
later_label : (H l m : ℕ) (ps : List Point) → l ≤ m → Label H l ps → Label H m ps
later_label H l m ps le x = record { two = x.two; climbs = x.climbs; starts = x.starts; ends = x.ends; prompt = x.prompt; early = λ i lt. le_trans (x.early i lt) le }

later_row : (P H l m : ℕ) (xs : List ℕ) → l ≤ m → Row P H l xs → Row P H m xs
later_row P H l m xs le (blank e) = blank e
later_row P H l m xs le (holds ps e fit x) = holds ps e fit (later_label H l m ps le x)

-- how many have a label, where one of them may have become one that has
module _ (f : Figures) (rows rows' : List ℕ) (x : ℕ) (others : (v : ℕ) → (v ≡ x → ⊥) → labelled f rows' v ≡ labelled f rows v) (there : labelled f rows' x ≡ true) where
  counts_before : (k : ℕ) → k ≤ x → labels_below f rows' k ≡ labels_below f rows k
  counts_before zero le = refl
  counts_before (suc k) le =
      let before = counts_before k (omega arith) in
      let here = others k (λ e. omega (arith, e, le)) in
      ap (λ (b : Bool). labels_below f rows' k + cond b 1 0) here ∙ ap (λ (n : ℕ). n + cond (labelled f rows k) 1 0) before

  pub counts_after : (k : ℕ) → x < k → labels_below f rows' k ≡ labels_below f rows k + cond (labelled f rows x) 0 1
  counts_after zero lt = absurd (omega (arith, lt))
  counts_after (suc k) lt = ⊎_elim at_it (λ ne. past_it ne (counts_after k (omega (arith, ne, lt)))) (same k x)
    where
      one : (b : Bool) → ◌≡◌ {A = ℕ} 1 (cond b 1 0 + cond b 0 1)
      one true = refl
      one false = refl

      at_it : k ≡ x → labels_below f rows' (suc k) ≡ labels_below f rows (suc k) + cond (labelled f rows x) 0 1
      at_it e =
          let had = labelled f rows x in
          let now_one : ◌≡◌ {A = ℕ} (cond (labelled f rows' k) 1 0) 1 = ap (λ (j : ℕ). cond (labelled f rows' j) 1 0) e ∙ ap (λ (b : Bool). cond b 1 0) there in
          let was : ◌≡◌ {A = ℕ} (cond (labelled f rows k) 1 0) (cond had 1 0) = ap (λ (j : ℕ). cond (labelled f rows j) 1 0) e in
          omega (arith, now_one, was, one had, counts_before k (omega (arith, e)))

      past_it : (k ≡ x → ⊥) → labels_below f rows' k ≡ labels_below f rows k + cond (labelled f rows x) 0 1 → labels_below f rows' (suc k) ≡ labels_below f rows (suc k) + cond (labelled f rows x) 0 1
      past_it ne before =
          let here : ◌≡◌ {A = ℕ} (cond (labelled f rows' k) 1 0) (cond (labelled f rows k) 1 0) = ap (λ (b : Bool). cond b 1 0) (others k ne) in
          omega (arith, before, here)

-- a node with a label counts
pub counts_some : (f : Figures) (rows : List ℕ) (v k : ℕ) → v < k → labelled f rows v ≡ true → 1 ≤ labels_below f rows k
counts_some f rows v zero lt some = absurd (omega (arith, lt))
counts_some f rows v (suc k) lt some = ⊎_elim
    (λ e. let one : ◌≡◌ {A = ℕ} (cond (labelled f rows k) 1 0) 1 = ap (λ (b : Bool). cond b 1 0) (ap (labelled f rows) (sym e) ∙ some) in omega (arith, one))
    (λ ne. omega (arith, counts_some f rows v k (omega (arith, ne, lt)) some))
    (same v k)

-- there are no more labels than nodes
pub counts_few : (f : Figures) (rows : List ℕ) (k : ℕ) → labels_below f rows k ≤ k
counts_few f rows zero = omega arith
counts_few f rows (suc k) = let h = counts_few f rows k in ⊎_elim
    (λ e. let one : ◌≡◌ {A = ℕ} (cond (labelled f rows k) 1 0) 1 = ap (λ (b : Bool). cond b 1 0) e in omega (arith, one, h))
    (λ e. let none : ◌≡◌ {A = ℕ} (cond (labelled f rows k) 1 0) 0 = ap (λ (b : Bool). cond b 1 0) e in omega (arith, none, h))
    (either (labelled f rows k))

-- no arrival of a well-formed sheet is past the last minute that a road may be asked for
pub latest_bound : (f : Figures) (rows : List ℕ) → Right f → latest f rows ≤ 20461440
latest_bound f rows ok = let h = counts_few f rows f.nodes in omega (arith, h, ok.few, ok.day)

-- a road's allowance
pub allow_small : (net : Net) (f : Figures) (r : ℕ) → Lawful net → f.allowance ≤ 10000 → r < net.roads → allow net f r ≤ 10000
allow_small net f r laws few road =
    let most : net.least r ≤ 10000 = omega (arith, laws.early r 0 road, laws.late r 0 road) in
    le_trans (div-le_of_le-mul 10000 (mul-le-mul_right (net.least r) few)) most

-- what a corridor is made of, where the tail of r has a label
module _ (net : Net) (laws : Lawful net) (f : Figures) (ok : Right f) (nodes : net.nodes ≡ f.nodes) (rows : List ℕ) (laid : Laid f rows) (r : ℕ) (road : r < net.roads) (some : labelled f rows (net.tail r) ≡ true) where
  abbrev H : ℕ
  H = f.window

  pub tail_below : net.tail r < f.nodes
  tail_below = omega (arith, laws.tails r road, nodes)

  pub head_below : net.head r < f.nodes
  head_below = omega (arith, laws.heads r road, nodes)

  pub tail_label : Label H (latest f rows) (label f rows (net.tail r))
  tail_label = (row_holds f.places H (latest f rows) _ (laid.holding (net.tail r) tail_below) some).0

  pub head_label : labelled f rows (net.head r) ≡ true → Label H (latest f rows) (label f rows (net.head r))
  head_label had = (row_holds f.places H (latest f rows) _ (laid.holding (net.head r) head_below) had).0

  pub over_low : (t : ℕ) → t + 1 ≤ over net f rows r t
  over_low t = omega (arith, laws.early r (at f rows (net.tail r) t) road, laws.takes r road, label_low H (latest f rows) _ tail_label t)

  pub over_high : (t : ℕ) → t ≤ H → over net f rows r t ≤ latest f rows + 10000
  over_high t le = omega (arith, laws.late r (at f rows (net.tail r) t) road, label_high H (latest f rows) _ tail_label t le)

  pub over_mono : (t u : ℕ) → t ≤ u → over net f rows r t ≤ over net f rows r u
  over_mono t u le = laws.order r _ _ road (label_mono H (latest f rows) _ tail_label t u le)

  abbrev lower : Bool → ℕ → ℕ
  lower b t = cond b (min (at f rows (net.head r) t) (over net f rows r t)) (over net f rows r t)

  abbrev upper : Bool → ℕ → ℕ
  upper b t = cond b (min (at f rows (net.head r) t) (over net f rows r t + allow net f r)) (over net f rows r t + allow net f r)

  pub ordered : Ordered (lo net f rows r) (up net f rows r) H
  ordered t le = go (labelled f rows (net.head r))
    where
      go : (b : Bool) → lower b t ≤ upper b t
      go true = omega arith
      go false = omega arith

  pub lo_low : (t : ℕ) → t ≤ lo net f rows r t
  lo_low t = ⊎_elim had had_not (either (labelled f rows (net.head r)))
    where
      had : labelled f rows (net.head r) ≡ true → t ≤ lo net f rows r t
      had e = subst (λ (b : Bool). t ≤ lower b t) (sym e) (omega (arith, over_low t, label_low H (latest f rows) _ (head_label e) t))

      had_not : labelled f rows (net.head r) ≡ false → t ≤ lo net f rows r t
      had_not e = subst (λ (b : Bool). t ≤ lower b t) (sym e) (omega (arith, over_low t))

  pub up_mono : NeverFalls (up net f rows r) H
  up_mono t u le last = ⊎_elim had had_not (either (labelled f rows (net.head r)))
    where
      had : labelled f rows (net.head r) ≡ true → up net f rows r t ≤ up net f rows r u
      had e = subst (λ (b : Bool). upper b t ≤ upper b u) (sym e) (omega (arith, over_mono t u le, label_mono H (latest f rows) _ (head_label e) t u le))

      had_not : labelled f rows (net.head r) ≡ false → up net f rows r t ≤ up net f rows r u
      had_not e = subst (λ (b : Bool). upper b t ≤ upper b u) (sym e) (omega (arith, over_mono t u le))

  abbrev Held : ℕ → Bool → Type 0
  Held t b = upper b t ≤ latest f rows + 20000 * cond b 0 1

  -- a head without a label may get one that is later by 20,000 minutes; a label never gets later
  pub up_high : (t : ℕ) → t ≤ H → up net f rows r t ≤ latest f rows + 20000 * cond (labelled f rows (net.head r)) 0 1
  up_high t le = ⊎_elim had had_not (either (labelled f rows (net.head r)))
    where
      had : labelled f rows (net.head r) ≡ true → Held t (labelled f rows (net.head r))
      had e = subst (Held t) (sym e) (omega (arith, label_high H (latest f rows) _ (head_label e) t le))

      had_not : labelled f rows (net.head r) ≡ false → Held t (labelled f rows (net.head r))
      had_not e = subst (Held t) (sym e) (omega (arith, over_high t le, allow_small net f r laws ok.allowance road))

  -- the origin's label is never asked to change
  pub origin_within : row f.places rows (net.head r) ≡ laid_out f.places (diagonal H) → Within net f rows r
  origin_within e =
      let lab : label f rows (net.head r) ≡ diagonal H = ap points e ∙ laid_back f.places (diagonal H) in
      record {
        some = ap any lab;
        near = λ t le. omega (arith, ap (λ (ps : List Point). reads ps t) lab, on_time H t ok.window, over_low t);
      }

  module _ (rows' : List ℕ) (needed : Within net f rows r → ⊥) (c : Replaced net f rows r rows') where
    label_new : label f rows' (net.head r) ≡ c.new
    label_new = ap points c.own ∙ laid_back f.places c.new

    label_other : (v : ℕ) → (v ≡ net.head r → ⊥) → label f rows' v ≡ label f rows v
    label_other v ne = ap points (c.others v ne)

    spans : Spans H c.new
    spans = corridor_laws.label_spans (lo net f rows r) (up net f rows r) H c.new c.corridor

    pub new_there : labelled f rows' (net.head r) ≡ true
    new_there = ap any label_new ∙ go c.new spans.some
      where
        go : (ps : List Point) → 0 < length ps → any ps ≡ true
        go [] h = absurd (omega (arith, h))
        go (p ∷ ps) h = refl

    count_is : labels_below f rows' f.nodes ≡ labels_below f rows f.nodes + cond (labelled f rows (net.head r)) 0 1
    count_is = counts_after f rows rows' (net.head r) (λ v ne. ap any (label_other v ne)) new_there f.nodes head_below

    latest_is : latest f rows' ≡ latest f rows + 20000 * cond (labelled f rows (net.head r)) 0 1
    latest_is = omega (arith, count_is, counts_some f rows (net.tail r) f.nodes tail_below some)

    new_label : Label H (latest f rows') c.new
    new_label = record {
      two = spans.two ok.window;
      climbs = spans.climbs;
      starts = spans.first;
      ends = spans.final;
      prompt = λ i lt. let s = corridor_laws.label_stands (lo net f rows r) (up net f rows r) H c.new ordered c.corridor i lt in le_trans (lo_low _) s.above;
      early = λ i lt. let s = corridor_laws.label_stands (lo net f rows r) (up net f rows r) H c.new ordered c.corridor i lt in omega (arith, s.below, up_high _ s.inside, latest_is);
    }

    pub replaced_laid : Laid f rows'
    replaced_laid = record {
      holding = λ v lt. ⊎_elim
          (λ e. subst (λ (x : ℕ). Row f.places H (latest f rows') (row f.places rows' x)) (sym e) (holds c.new c.own c.fits new_label))
          (λ ne. subst (Row f.places H (latest f rows')) (sym (c.others v ne)) (later_row f.places H (latest f rows) (latest f rows') _ (omega (arith, latest_is)) (laid.holding v lt)))
          (same v (net.head r));
      origin_row = λ o is. ⊎_elim
          (λ e. absurd (needed (origin_within (subst (λ (x : ℕ). row f.places rows x ≡ laid_out f.places (diagonal H)) e (laid.origin_row o is)))))
          (λ ne. c.others o ne ∙ laid.origin_row o is)
          (same o (net.head r));
      bare = λ none v lt. absurd (clash some (ap any (ap points (laid.bare none (net.tail r) tail_below) ∙ blank_points f.places)));
    }
