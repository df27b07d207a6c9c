use Rattle.std.proofs.Common.{rules, ◌∙◌, arith}
use Rattle.layout.specs.Layout.{body_text, header}
use Rattle.layout.specs.Sheets.{rows}
use Rattle.layout.proofs.Writing.{wrote_more}
use Rattle.layout.proofs.cells.Cells.write_text.Goals as goal

pub returns-clause-writes_text_alone : goal.returns-clause-writes_text_alone
returns-clause-writes_text_alone c =
    let self = c.args.self.now in
    let lines = body_text 1 (rows self.numbers.now self.width self.nodes) in
    let all = wrote_more _ c.put_header.new.self header lines (omega (arith, c.requires)) c.put_header.ensures.wrote_header _ c.put_rows.ensures.wrote_rows in
    search (rules, all.same_buffer) ∙ all.writes_alone
