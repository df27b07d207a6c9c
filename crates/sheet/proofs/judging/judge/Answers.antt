use Rattle.std.proofs.Common.{◌≡◌, ℕ, List, sym, ap, ◌∙◌, subst, arith}
use Rattle.runs.specs.declared.Figures.{Figures}
use Rattle.runs.specs.declared.heading.Heading.{Heading}
use Rattle.runs.specs.Formed.{WellFormed}
use Rattle.sheet.specs.Judging.{short, disagrees, fits}
use Rattle.sheet.proofs.judging.judge.Goals as goal
use Rattle.sheet.proofs.judging.judge.Goals.{then-rows-size_of_rows-via-then-rows-size_of_rows, then-rows-size_of_rows-via-else-rows-size_of_rows+then-marks-figures}
use Rattle.sheet.proofs.judging.judge.Goals.{then-nodes-figures-via-then-nodes-figures, then-nodes-figures-via-else-nodes-figures+then-roads-figures, then-nodes-figures-via-else-nodes-figures+else-roads-figures+then-bound-figures, then-nodes-figures-via-else-nodes-figures+else-roads-figures+else-bound-figures+then-not-is_well_formed}

-- the same sheet, by labels that hold its heading and its rows
formed_as : (h k : Heading) (rows cells marks : List ℕ) → h ≡ k → rows ≡ cells → WellFormed h.figures rows marks → WellFormed k.figures cells marks
formed_as h k rows cells marks e r w = subst (λ (x : List ℕ). WellFormed k.figures x marks) r (subst (λ (x : Heading). WellFormed x.figures rows marks) e w)

pub returns-then-rows-size_of_rows : goal.returns-then-rows-size_of_rows
returns-then-rows-size_of_rows g c = record {
  judged = short (λ roomy. elim c.then-rows-size_of_rows.branch [
    | then-rows-size_of_rows-via-then-rows-size_of_rows w ↦ omega (arith, roomy.rows, w.if-rows-size_of_rows.true, c.size_of_rows.ensures.rows_measured)
    | then-rows-size_of_rows-via-else-rows-size_of_rows+then-marks-figures w ↦ omega (arith, roomy.marks, w.if-marks-figures.true, ap (λ (f : Figures). f.roads) c.figures-figures.ensures.figures_held)
  ]);
}

pub returns-then-nodes-figures : goal.returns-then-nodes-figures
returns-then-nodes-figures g c = record {
  judged = disagrees
      (record { rows = omega (arith, c.if-rows-size_of_rows.false, c.size_of_rows.ensures.rows_measured); marks = omega (arith, c.if-marks-figures.false, ap (λ (f : Figures). f.roads) c.figures-figures.ensures.figures_held) })
      (λ fit. elim c.then-nodes-figures.branch [
        | then-nodes-figures-via-then-nodes-figures w ↦ w.if-nodes-figures.true (c.nodes.ensures.nodes_as_meant ∙ fit.agree.nodes ∙ sym (ap (λ (f : Figures). f.nodes) c.figures-figures.ensures.figures_held))
        | then-nodes-figures-via-else-nodes-figures+then-roads-figures w ↦ w.if-roads-figures.true (w.roads.ensures.roads_as_meant ∙ fit.agree.roads ∙ sym (ap (λ (f : Figures). f.roads) c.figures-figures.ensures.figures_held))
        | then-nodes-figures-via-else-nodes-figures+else-roads-figures+then-bound-figures w ↦ w.if-bound-figures.true (w.bound.ensures.bound_is ∙ fit.agree.bound ∙ sym (ap (λ (f : Figures). f.nodes) c.figures-figures.ensures.figures_held))
        | then-nodes-figures-via-else-nodes-figures+else-roads-figures+else-bound-figures+then-not-is_well_formed w ↦
            w.if-not-is_well_formed.ensures.well_formed_or_not (formed_as _ _ _ _ _ (sym w.new.ensures.same_heading) (sym w.new.ensures.same_rows) fit.formed)
      ]);
}

pub returns : goal.returns
returns g c = record {
  judged = fits (record {
    roomy = record { rows = omega (arith, c.if-rows-size_of_rows.false, c.size_of_rows.ensures.rows_measured); marks = omega (arith, c.if-marks-figures.false, ap (λ (f : Figures). f.roads) c.figures-figures.ensures.figures_held) };
    agree = record {
      nodes = sym c.nodes.ensures.nodes_as_meant ∙ c.if-nodes-figures.false ∙ ap (λ (f : Figures). f.nodes) c.figures-figures.ensures.figures_held;
      roads = sym c.roads.ensures.roads_as_meant ∙ c.if-roads-figures.false ∙ ap (λ (f : Figures). f.roads) c.figures-figures.ensures.figures_held;
      bound = sym c.bound.ensures.bound_is ∙ c.if-bound-figures.false ∙ ap (λ (f : Figures). f.nodes) c.figures-figures.ensures.figures_held;
    };
    formed = formed_as _ _ _ _ _ c.new.ensures.same_heading c.new.ensures.same_rows c.if-not-is_well_formed.ensures.well_formed_or_not;
  });
}
