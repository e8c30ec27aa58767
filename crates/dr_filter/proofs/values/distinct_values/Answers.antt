use Rattle.std.proofs.lemmas.Result.{err_from_is_err_and}
use Rattle.serde_json.specs.View.{items_view}
use Rattle.dr_filter.specs.Values.{distinct_values}
use Rattle.dr_filter.proofs.DistinctValues.{with_text-from_add, distinct_from-goes_on, distinct_from-stops, distinct_from-ends}
use Rattle.dr_filter.proofs.values.distinct_values.Goals as goal

pub returns-in_err-text : goal.returns-in_err-text
returns-in_err-text c =
    let p = err_from_is_err_and c.from_residual.result c.from_residual.ensures.1 in
    rw (p.1, p.2) (distinct_from-stops c.loop-value.texts c.args.values.now c.loop-value.value-index (distinct_values (items_view c.args.values.now)) c.value-item.result c.in_err-text.field-0.0 c.loop-value-test.true c.value-item.is c.loop-value.invariant c.in_err-text.ensures)

pub loop-value-preserved : goal.loop-value-preserved
loop-value-preserved c =
    let added = with_text-from_add c.loop-value.texts c.add.new.self c.in_ok-text.text c.in_ok-add.field-0 c.in_ok-add.ensures.is_new c.in_ok-add.ensures.added c.in_ok-add.ensures.same in
    rw added (distinct_from-goes_on c.loop-value.texts c.args.values.now c.loop-value.value-index (distinct_values (items_view c.args.values.now)) c.value-item.result c.in_ok-text.text c.loop-value-test.true c.value-item.is c.in_ok-text.ensures c.loop-value.invariant)

pub returns : goal.returns
returns c = distinct_from-ends c.loop-value.texts c.args.values.now c.loop-value.value-index (distinct_values (items_view c.args.values.now)) c.loop-value-test.false c.loop-value.invariant
