use Rattle.std.proofs.Common.{◌∙◌, sym, map}
use Rattle.dr_image.specs.Words.{word}
use Rattle.dr_image.proofs.ContentLemmas.{row_falls, row_differs, row_more, rows_end}
use Rattle.dr_image.proofs.contents.do_rows_have.Goals as goal

pub returns-then-row-least : goal.returns-then-row-least
returns-then-row-least c = sym (sym c.loop-cell.invariant ∙ row_falls c.args.rows.now (map word c.args.numbers.now) c.loop-cell.cell-index c.loop-cell.least c.args.value c.number-row.result c.loop-cell-test.true c.number-row.ensures c.if-row-least.true)

pub returns-then-not-has_value : goal.returns-then-not-has_value
returns-then-not-has_value c = sym (sym c.loop-cell.invariant ∙ row_differs c.args.rows.now (map word c.args.numbers.now) c.loop-cell.cell-index c.loop-cell.least c.args.value c.number-row.result c.loop-cell-test.true c.number-row.ensures (sym c.has_value.ensures ∙ c.if-not-has_value.true))

pub loop-cell-preserved : goal.loop-cell-preserved
loop-cell-preserved c = sym (row_more c.args.rows.now (map word c.args.numbers.now) c.loop-cell.cell-index c.loop-cell.least c.args.value c.number-row.result c.loop-cell-test.true c.number-row.ensures c.if-row-least.false (sym c.has_value.ensures ∙ c.if-not-has_value.false)) ∙ c.loop-cell.invariant

pub returns : goal.returns
returns c = sym (rows_end c.args.rows.now (map word c.args.numbers.now) c.loop-cell.cell-index c.loop-cell.least c.args.value c.loop-cell-test.false) ∙ c.loop-cell.invariant
