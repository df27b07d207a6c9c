use Rattle.std.proofs.Common.{◌≡◌, ℕ, Bool, List, [], ◌∷◌, MatchBool, sym, subst, ap, ◌∙◌}
use Rattle.std.proofs.lemmas.Bool.Decides.{Decides-eqb}
use Rattle.std.proofs.lemmas.Bool.{both_ways}
use Rattle.std.proofs.lemmas.Slice.Eq.{slice_eq-Decides}
use Rattle.rows.specs.Rows.{laid_out}
use Rattle.runs.specs.Sheet.{diagonal}
use Rattle.forming.proofs.Blanks.{zero_part, zero_part⁻, diagonal_tells, diagonal_made}
use Rattle.forming.proofs.Whens.{when_map, when_not}
use Rattle.forming.proofs.row_forms.is_origin_row.Goals as goal

-- the first numbers of an origin's row, with its last departure
abbrev front : ℕ → List ℕ
front w = 2 ∷ (0 ∷ (0 ∷ (w ∷ (w ∷ []))))

-- what the test answers of a row with these numbers
abbrev Answered : ℕ → ℕ → Bool → List ℕ → Type 0
Answered P H b xs = MatchBool b (xs ≡ laid_out P (diagonal H)) (xs ≡ laid_out P (diagonal H) → ⊥)

pub returns-then-eq : goal.returns-then-eq
returns-then-eq c =
    let f = c.args.labels.now.heading.figures in
    let numbers = c.row-row.result.now in
    let first = (slice_eq-Decides Decides-eqb _ _ c.eq.result c.eq.ensures).0 c.if-eq.true ∙ ap front c.window-window.ensures.window_held in
    record {
      diagonal_or_not = subst (Answered f.places f.window c.is_zero.result) c.row-row.ensures.row_is (when_map c.is_zero.result
          (λ z. diagonal_made f.places f.window numbers c.row-row.ensures.whole (record { first = first; rest = zero_part numbers 5 z }))
          (λ none e. none (zero_part⁻ numbers 5 (diagonal_tells _ _ numbers e).rest))
          c.is_zero.ensures.zero_or_not);
    }

pub returns-else-eq : goal.returns-else-eq
returns-else-eq c =
    let f = c.args.labels.now.heading.figures in
    let numbers = c.row-row.result.now in
    record {
      diagonal_or_not = subst (Answered f.places f.window c.eq.result) c.row-row.ensures.row_is (when_not _ _ c.eq.result c.if-eq.false
          (λ e. both_ways c.eq.result c.if-eq.false ((slice_eq-Decides Decides-eqb _ _ c.eq.result c.eq.ensures).1 ((diagonal_tells _ _ numbers e).first ∙ ap front (sym c.window-window.ensures.window_held)))));
    }
