use Rattle.std.proofs.Common.{◌∙◌, sym, ap, arith}
use Rattle.dr_answers.specs.Fold.{value_at}
use Rattle.dr_image.specs.Table.{row_at}
use Rattle.dr_columns.proofs.ValueLemmas.{metric-there, metric-absent}
use Rattle.dr_columns.proofs.reading.values_of.Goals as goal

pub returns-then-column-metric_count : goal.returns-then-column-metric_count
returns-then-column-metric_count c = λ i.
    metric-there c.args.view.now c.in-Some.column.place i _ c.metric_bytes.ensures ∙ sym (ap (λ o. value_at o (row_at c.args.view.now i)) c.in-Some.is)

pub returns-else-column-metric_count : goal.returns-else-column-metric_count
returns-else-column-metric_count c = λ i.
    metric-absent c.args.view.now c.in-Some.column.place i (omega (arith, c.if-column-metric_count.false, c.metric_count.ensures)) ∙ sym (ap (λ o. value_at o (row_at c.args.view.now i)) c.in-Some.is)
