use Rattle.std.proofs.lemmas.Result.{err_from_is_err_and}
use Rattle.serde_json.specs.View.{items_view}
use Rattle.dr_order.specs.ColumnOf.{column_of}
use Rattle.dr_base.specs.Each.{each}
use Rattle.dr_order.specs.Refusal.{is_memory}
use Rattle.dr_base.proofs.ItemsInTurn.{each_from-goes_on, each_from-stops, each_from-ends}
use Rattle.dr_order.proofs.column_reading.each.Goals as goal

pub returns-in_err-column : goal.returns-in_err-column
returns-in_err-column c =
    let p = err_from_is_err_and c.from_residual.result c.from_residual.ensures.1 in
    rw (p.1, p.2) (each_from-stops is_memory (column_of c.args.dimensions.now c.args.aggregations.now) c.loop-value.columns c.args.values.now c.loop-value.value-index c.value-item.result c.in_err-column.field-0.0 (each (column_of c.args.dimensions.now c.args.aggregations.now) (items_view c.args.values.now)) c.loop-value-test.true c.value-item.is c.loop-value.invariant c.in_err-column.ensures)

pub returns : goal.returns
returns c =
    each_from-ends (column_of c.args.dimensions.now c.args.aggregations.now) c.loop-value.columns c.args.values.now c.loop-value.value-index (each (column_of c.args.dimensions.now c.args.aggregations.now) (items_view c.args.values.now)) c.loop-value-test.false c.loop-value.invariant

pub loop-value-preserved : goal.loop-value-preserved
loop-value-preserved c =
    rw c.in_ok-push.ensures.ok (each_from-goes_on (column_of c.args.dimensions.now c.args.aggregations.now) c.loop-value.columns c.args.values.now c.loop-value.value-index c.value-item.result c.in_ok-column.field-0 (each (column_of c.args.dimensions.now c.args.aggregations.now) (items_view c.args.values.now)) c.loop-value-test.true c.value-item.is c.in_ok-column.ensures c.loop-value.invariant)
