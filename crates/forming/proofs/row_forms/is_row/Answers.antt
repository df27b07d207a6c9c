use Rattle.std.proofs.Common.{ℕ, ◌≤◌, Bool, List, MatchBool, get_or, sym, subst, arith}
use Rattle.std.proofs.lemmas.Bool.{eq-eqb}
use Rattle.rows.specs.Rows.{points}
use Rattle.runs.specs.Formed.{Label, Row}
use Rattle.forming.proofs.Blanks.{zero_part, zero_part⁻, holds_label, is_blank, row_tells}
use Rattle.forming.proofs.Whens.{when_map, when_so}
use Rattle.forming.proofs.row_forms.is_row.Goals as goal
use Rattle.forming.proofs.row_forms.is_row.Goals.{then-count-places-via-then-count-places, then-count-places-via-else-count-places+then-not-is_zero}

-- what the test answers of a row with these numbers
abbrev Answered : ℕ → ℕ → ℕ → Bool → List ℕ → Type 0
Answered P H limit b xs = MatchBool b (Row P H limit xs) (Row P H limit xs → ⊥)

pub returns-then-count-places : goal.returns-then-count-places
returns-then-count-places c =
    let f = c.args.labels.now.heading.figures in
    let numbers = c.row-row.result.now in
    record {
      row_or_not = λ h.
          let tells = row_tells _ _ _ numbers (subst (Row f.places f.window c.args.limit) (sym c.row-row.ensures.row_is) h) in
          elim c.then-count-places.branch [
            | then-count-places-via-then-count-places w ↦ omega (arith, tells.few, w.if-count-places.true, c.places.ensures.places_held)
            | then-count-places-via-else-count-places+then-not-is_zero w ↦ w.if-not-is_zero.ensures.zero_or_not (zero_part⁻ numbers _ tells.rest)
          ];
    }

pub returns-then-count-eq0 : goal.returns-then-count-eq0
returns-then-count-eq0 c =
    let f = c.args.labels.now.heading.figures in
    let numbers = c.row-row.result.now in
    record {
      row_or_not = subst (Answered f.places f.window c.args.limit _) c.row-row.ensures.row_is (when_so _ _ _ (eq-eqb _ _ c.if-count-eq0.true)
          (is_blank f.places numbers c.row-row.ensures.whole _ _ c.if-count-eq0.true (zero_part numbers _ c.if-not-is_zero.ensures.zero_or_not)));
    }

pub returns-else-count-eq0 : goal.returns-else-count-eq0
returns-else-count-eq0 c =
    let f = c.args.labels.now.heading.figures in
    let numbers = c.row-row.result.now in
    let held = c.window.ensures.window_held in
    let few : get_or numbers 0 0 ≤ f.places = omega (arith, c.if-count-places.false, c.places.ensures.places_held) in
    record {
      row_or_not = subst (Answered f.places f.window c.args.limit c.is_label.result) c.row-row.ensures.row_is (when_map c.is_label.result
          (λ lab. holds_label f.places numbers c.row-row.ensures.whole _ _ few (zero_part numbers _ c.if-not-is_zero.ensures.zero_or_not) (subst (λ (w : ℕ). Label w c.args.limit (points numbers)) held lab))
          (λ none h. none (subst (λ (w : ℕ). Label w c.args.limit (points numbers)) (sym held) ((row_tells _ _ _ numbers h).label c.if-count-eq0.false)))
          c.is_label.ensures.label_or_not);
    }
