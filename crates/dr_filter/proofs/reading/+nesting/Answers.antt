use Rattle.std.proofs.Common.{◌∷◌, [], map}
use Rattle.std.specs.Prelude.{codes}
use Rattle.std.proofs.lemmas.Result.{err_from_is_err_and}
use Rattle.std.proofs.lemmas.List.{map-append}
use Rattle.serde_json.specs.View.{view, items_view}
use Rattle.dr_base.specs.Each.{each}
use Rattle.dr_base.proofs.ItemsInTurn.{each_from-goes_on, each_from-stops, each_from-ends}
use Rattle.dr_filter.specs.Condition.{condition_in}
use Rattle.dr_filter.specs.FilterOf.{filter_at}
use Rattle.dr_filter.specs.Refusal.{is_memory}
use Rattle.dr_filter.proofs.Levels.{filter_at-none, filter_at-some}
use Rattle.dr_filter.proofs.reading.+nesting.Goals as goal

pub each-returns-in_err-filter_at : goal.each-returns-in_err-filter_at
each-returns-in_err-filter_at t c =
    let p = err_from_is_err_and c.from_residual.result c.from_residual.ensures.1 in
    rw (p.1, p.2) (each_from-stops is_memory (filter_at c.args.inside c.args.schema.now (codes "fields")) (map condition_in c.loop-value.filters.items) c.args.values.now c.loop-value.value-index c.value-item.result c.in_err-filter_at.field-0.0 (each (filter_at c.args.inside c.args.schema.now (codes "fields")) (items_view c.args.values.now)) c.loop-value-test.true c.value-item.is c.loop-value.invariant c.in_err-filter_at.ensures)

pub each-loop-value-preserved : goal.each-loop-value-preserved
each-loop-value-preserved t c =
    rw (c.in_ok-push.ensures.items, map-append condition_in c.loop-value.filters.items (c.in_ok-filter_at.field-0 ∷ [])) (each_from-goes_on (filter_at c.args.inside c.args.schema.now (codes "fields")) (map condition_in c.loop-value.filters.items) c.args.values.now c.loop-value.value-index c.value-item.result (condition_in c.in_ok-filter_at.field-0) (each (filter_at c.args.inside c.args.schema.now (codes "fields")) (items_view c.args.values.now)) c.loop-value-test.true c.value-item.is c.in_ok-filter_at.ensures c.loop-value.invariant)

pub each-returns : goal.each-returns
each-returns t c =
    each_from-ends (filter_at c.args.inside c.args.schema.now (codes "fields")) (map condition_in c.loop-value.filters.items) c.args.values.now c.loop-value.value-index (each (filter_at c.args.inside c.args.schema.now (codes "fields")) (items_view c.args.values.now)) c.loop-value-test.false c.loop-value.invariant

pub filter_at-returns-then-levels-eq0 : goal.filter_at-returns-then-levels-eq0
filter_at-returns-then-levels-eq0 t c =
    rw (filter_at-none c.args.levels c.args.schema.now c.args.name.now (view c.args.value.now) c.if-levels-eq0.true) c.too_deep.ensures

pub filter_at-returns-else-levels-eq0 : goal.filter_at-returns-else-levels-eq0
filter_at-returns-else-levels-eq0 t c =
    rw (filter_at-some c.args.levels c.args.schema.now c.args.name.now (view c.args.value.now) c.if-levels-eq0.false) c.level.ensures
