use Rattle.std.proofs.Common.{◌≡◌, ℕ, ◌<◌, ◌≤◌, List, length, is_some, Option, Some, sym, refl, ap, ◌∙◌, subst, rules, arith}
use Rattle.layout.specs.Layout.{layout}
use Rattle.layout.specs.Sheets.{rows}
use Rattle.numeral.specs.Texts.{written}
use Rattle.rows.specs.Rows.{width}
use Rattle.runs.specs.declared.Figures.{Figures}
use Rattle.runs.specs.Figured.{right_tells}
use Rattle.sheet.proofs.Judgements.{fit}
use Rattle.refusal.specs.Refusals.{refusal}
use Rattle.book.specs.Printing.{Answered, book_of, unfit, unstarted, unsettled, cramped, printable}
use Rattle.book.specs.Printing as printing
use Rattle.book.proofs.Fitting.{sheet_fits, some_origin, no_origin}
use Rattle.book.proofs.print.Goals as goal

pub returns-in_err-judge-clause-refused_as_listed : goal.returns-in_err-judge-clause-refused_as_listed
returns-in_err-judge-clause-refused_as_listed g c =
    let why = c.in_err-judge.field-0.0 in
    let said : Some why ≡ refusal c.from_residual.result = search rules in
    subst (Answered _ _ _ _ _ _ _ _) said (unfit why c.in_err-judge.ensures.judged)

pub returns-then-is_none : goal.returns-then-is_none
returns-then-is_none g c =
    let none = no_origin c.args.heading.now.figures.origin (ap (λ (o : Option ℕ). is_some o) (sym c.origin.ensures.origin_held) ∙ c.if-is_none.ensures) in
    record { refused_as_listed = printing.fit _ (fit c.in_ok-judge.ensures.judged) (unstarted none); length_of_book = tt; book_printed = tt; refused_keeps_all = refl }

pub returns-then-not-is_empty : goal.returns-then-not-is_empty
returns-then-not-is_empty g c =
    let some = some_origin c.args.heading.now.figures.origin (ap (λ (o : Option ℕ). is_some o) (sym c.origin.ensures.origin_held) ∙ c.if-is_none.ensures) in
    record { refused_as_listed = printing.fit _ (fit c.in_ok-judge.ensures.judged) (unsettled some.0 some.1 c.if-not-is_empty.ensures.none_waits_or_some); length_of_book = tt; book_printed = tt; refused_keeps_all = refl }

pub invariant_of-cells : goal.invariant_of-cells
invariant_of-cells g c =
    let h = c.args.heading.now in
    record { fits = sheet_fits _ h.figures c.args.rows.now c.args.marks.now _ _ _ (right_tells h.figures h.lawful) (fit c.in_ok-judge.ensures.judged) (c.row_width.ensures.width_is ∙ ap (λ (g : Figures). width g.places) c.figures.ensures.figures_held) c.nodes.ensures.nodes_held }

-- what is laid out is the sheet's book
laid : (f : Figures) (cells : List ℕ) (w n : ℕ) → w ≡ width f.places → n ≡ f.nodes → layout (rows cells w n) ≡ book_of f cells
laid f cells w n wide many = ap (λ (x : ℕ). layout (rows cells x n)) wide ∙ ap (λ (x : ℕ). layout (rows cells (width f.places) x)) many

pub returns-then-text_length-buffer : goal.returns-then-text_length-buffer
returns-then-text_length-buffer g c =
    let f = c.args.heading.now.figures in
    let some = some_origin f.origin (ap (λ (o : Option ℕ). is_some o) (sym c.origin.ensures.origin_held) ∙ c.if-is_none.ensures) in
    let is = laid f c.args.rows.now _ _ (c.row_width.ensures.width_is ∙ ap (λ (g : Figures). width g.places) c.figures.ensures.figures_held) c.nodes.ensures.nodes_held in
    let long : length c.args.buffer.now < length (book_of f c.args.rows.now) = omega (arith, c.text_length.ensures.measures_text, ap length is) in
    record { refused_as_listed = printing.fit _ (fit c.in_ok-judge.ensures.judged) (cramped some.0 some.1 c.if-not-is_empty.ensures.none_waits_or_some long); length_of_book = tt; book_printed = tt; refused_keeps_all = refl }

pub write_text-requires : goal.write_text-requires
write_text-requires g c = record { room = omega (arith, c.text_length.ensures.measures_text) }

pub returns : goal.returns
returns g c =
    let f = c.args.heading.now.figures in
    let some = some_origin f.origin (ap (λ (o : Option ℕ). is_some o) (sym c.origin.ensures.origin_held) ∙ c.if-is_none.ensures) in
    let is = laid f c.args.rows.now _ _ (c.row_width.ensures.width_is ∙ ap (λ (g : Figures). width g.places) c.figures.ensures.figures_held) c.nodes.ensures.nodes_held in
    let short : length (book_of f c.args.rows.now) ≤ length c.args.buffer.now = omega (arith, c.text_length.ensures.measures_text, ap length is) in
    record {
      refused_as_listed = printing.fit _ (fit c.in_ok-judge.ensures.judged) (printable some.0 some.1 c.if-not-is_empty.ensures.none_waits_or_some short);
      length_of_book = c.write_text.ensures.ends_after_text ∙ ap length is;
      book_printed = c.write_text.ensures.writes_text_alone ∙ ap (λ (text : List ℕ). written 0 text c.args.buffer.now) is;
      refused_keeps_all = tt;
    }
