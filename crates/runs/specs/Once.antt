-- The rows of a sheet are well formed in one way at most, so that a type may keep the fact.
use Rattle.std.specs.Prelude.{◌≡◌, ℕ, ◌*◌, ◌≤◌, List, [], length, replicate}
use Rattle.std.proofs.Common.{sym, ap, ◌∙◌, subst, one-add, arith}
use Rattle.std.proofs.Props.{props}
use Rattle.curve.specs.declared.points.Point.{Point}
use Rattle.rows.specs.Rows.{width, points, pairs, laid_out, laid_back}
use Rattle.network.specs.Net.{Net}
use Rattle.runs.specs.declared.Figures.{Figures}
use Rattle.runs.specs.Formed.{Label, Row, blank, holds, Laid}
use Rattle.runs.specs.Ready.{Ready}

-- a blank row has no points
pub blank_points : (P : ℕ) → points (replicate (width P) 0) ≡ []
unfolding points pairs
blank_points P = rw (one-add (2 * P))

module _ (P H limit : ℕ) (xs : List ℕ) where
  -- what a row that holds the label ps shows
  record Held (ps : List Point) : Type 0 where
    pub laid : xs ≡ laid_out P ps
    pub fits : length ps ≤ P
    pub label : Label H limit ps

  held_once : (ps : List Point) → IsProp (Held ps)
  held_once ps = hlevel props

  abbrev held : (ps : List Point) → Held ps → Row P H limit xs
  held ps h = holds ps h.laid h.fits h.label

  not_both : (ps : List Point) → xs ≡ replicate (width P) 0 → Held ps → ⊥
  not_both ps e h =
      let none : ps ≡ [] = sym (laid_back P ps) ∙ ap points (sym h.laid ∙ e) ∙ blank_points P in
      omega (arith, h.label.two, ap length none)

  same_label : (ps qs : List Point) → Held ps → Held qs → ps ≡ qs
  same_label ps qs h k = sym (laid_back P ps) ∙ ap points (sym h.laid ∙ k.laid) ∙ laid_back P qs

  held_same : (ps qs : List Point) (h : Held ps) (k : Held qs) → held ps h ≡ held qs k
  held_same ps qs h k = subst (λ (rs : List Point). (l : Held rs) → held ps h ≡ held rs l) (same_label ps qs h k) (λ l. ap (held ps) (held_once ps h l)) k

  pub row_once : IsProp (Row P H limit xs)
  row_once (blank e) (blank e') = let once : IsProp (xs ≡ replicate (width P) 0) = hlevel props in ap blank (once e e')
  row_once (blank e) (holds ps is fits label) = absurd (not_both ps e record { laid = is; fits = fits; label = label })
  row_once (holds ps is fits label) (blank e) = absurd (not_both ps e record { laid = is; fits = fits; label = label })
  row_once (holds ps is fits label) (holds qs is' fits' label') = held_same ps qs record { laid = is; fits = fits; label = label } record { laid = is'; fits = fits'; label = label' }

pub laid_once : (f : Figures) (rows : List ℕ) → IsProp (Laid f rows)
laid_once f rows = hlevel (props, row_once)

pub ready_once : (net : Net) (f : Figures) (rows : List ℕ) → IsProp (Ready net f rows)
ready_once net f rows = hlevel (props, laid_once)
