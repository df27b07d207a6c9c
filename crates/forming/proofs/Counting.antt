-- Which nodes have a label, told by the first number of their rows.
use Rattle.std.proofs.Common.{◌≡◌, ℕ, zero, suc, ◌+◌, ◌<◌, false, cond, List, map, map-id, replicate, Some, None, Option, refl, sym, ap, ◌∙◌, subst, inl, inr, add-one, arith}
use Rattle.std.proofs.lemmas.Bool.{cond-false, both_ways, cases_Bool}
use Rattle.std.proofs.lemmas.List.FromFn.{sum_by-map-range_with_len_more}
use Rattle.std.specs.List.{count_by, range_with_len, sum_by}
use Rattle.rows.specs.Rows.{width, points, laid_back}
use Rattle.runs.specs.declared.Figures.{Figures}
use Rattle.runs.specs.Sheet.{row, any, labelled}
use Rattle.runs.specs.Formed.{Row, blank, holds, labels_below, latest, WellFormed}
use Rattle.runs.proofs.Keeping.{counts_some}
use Rattle.runs.specs.Once.{blank_points}
use Rattle.runs.proofs.Reading.{label_there}
use Rattle.forming.specs.Parts.{Marked, Holding, Begun}

module _ (f : Figures) (rows : List ℕ) where
  -- the labels below k, counted over the nodes
  pub labels_over : (k : ℕ) → labels_below f rows k ≡ count_by (labelled f rows) (range_with_len 0 k)
  labels_over zero = refl
  labels_over (suc k) =
      let g : ℕ → ℕ = λ v. cond (labelled f rows v) 1 0 in
      let ids : (n : ℕ) → sum_by g (map (λ (v : ℕ). v) (range_with_len 0 n)) ≡ sum_by g (range_with_len 0 n) = λ n. ap (sum_by g) (map-id (range_with_len 0 n)) in
      let next : count_by (labelled f rows) (range_with_len 0 (suc k)) ≡ count_by (labelled f rows) (range_with_len 0 (k + 1)) = ap (λ n. count_by (labelled f rows) (range_with_len 0 n)) (sym (add-one k)) in
      omega (arith, labels_over k, next, ids k, ids (k + 1), sum_by-map-range_with_len_more g (λ (v : ℕ). v) 0 k k (omega arith))

  -- with no label below k, none of those nodes has one
  none_below : (k v : ℕ) → labels_below f rows k ≡ 0 → v < k → labelled f rows v ≡ false
  none_below k v e lt = elim (cases_Bool (labelled f rows v)) [ inl some ↦ absurd (omega (arith, e, counts_some f rows v k lt some)) | inr none ↦ none ]

  -- where no node below k has a label, none is counted
  count_none : (k : ℕ) → ((v : ℕ) → v < k → labelled f rows v ≡ false) → labels_below f rows k ≡ 0
  count_none zero h = refl
  count_none (suc k) h = let e = count_none k (λ v lt. h v (omega (arith, lt))) in let c = cond-false {A = ℕ} (labelled f rows k) 1 0 (h k (omega arith)) in omega (arith, e, c)

  -- a row without a label is blank
  pub bare_row : (limit v : ℕ) → Row f.places f.window limit (row f.places rows v) → labelled f rows v ≡ false → row f.places rows v ≡ replicate (width f.places) 0
  bare_row limit v (blank e) no_label = e
  bare_row limit v (holds ps e fit lab) no_label =
      absurd (both_ways (labelled f rows v) no_label (ap (λ (xs : List ℕ). any (points xs)) e ∙ ap any (laid_back f.places ps) ∙ label_there f.window limit ps lab))

  pub blank_unlabelled : (v : ℕ) → row f.places rows v ≡ replicate (width f.places) 0 → labelled f rows v ≡ false
  blank_unlabelled v e = ap (λ (xs : List ℕ). any (points xs)) e ∙ ap any (blank_points f.places)

-- the parts of the test and the whole
pub formed : (f : Figures) (rows marks : List ℕ) → Marked f marks → Holding f (latest f rows) rows → Begun f rows f.origin → WellFormed f rows marks
formed f rows marks m h b = record {
  marked = m;
  holding = h;
  origin_row = λ o e. subst (Begun f rows) e b;
  bare = λ e v lt. bare_row f rows (latest f rows) v (h v lt) (none_below f rows f.nodes v (subst (Begun f rows) e b) lt);
}

pub begun : (f : Figures) (rows marks : List ℕ) → WellFormed f rows marks → Begun f rows f.origin
begun f rows marks w = go f.origin refl
  where
    go : (o : Option ℕ) → f.origin ≡ o → Begun f rows o
    go None e = count_none f rows f.nodes (λ v lt. blank_unlabelled f rows v (w.bare e v lt))
    go (Some o) e = w.origin_row o e
