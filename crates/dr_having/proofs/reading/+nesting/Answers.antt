use Rattle.std.proofs.Common.{◌∷◌, [], map}
use Rattle.std.specs.Prelude.{codes}
use Rattle.std.proofs.lemmas.Result.{err_from_is_err_and}
use Rattle.std.proofs.lemmas.List.{map-append}
use Rattle.serde_json.specs.View.{view, items_view}
use Rattle.dr_base.specs.Each.{each}
use Rattle.dr_base.proofs.ItemsInTurn.{each_from-goes_on, each_from-stops, each_from-ends}
use Rattle.dr_having.specs.Condition.{condition_in}
use Rattle.dr_having.specs.HavingOf.{having_at}
use Rattle.dr_having.specs.Refusal.{is_memory}
use Rattle.dr_having.proofs.Levels.{having_at-none, having_at-some}
use Rattle.dr_having.proofs.reading.+nesting.Goals as goal

pub each-returns-in_err-having_at : goal.each-returns-in_err-having_at
each-returns-in_err-having_at t c =
    let p = err_from_is_err_and c.from_residual.result c.from_residual.ensures.1 in
    rw (p.1, p.2) (each_from-stops is_memory (having_at c.args.inside c.args.dimensions.now c.args.aggregations.now (codes "havingSpecs")) (map condition_in c.loop-value.conditions.items) c.args.values.now c.loop-value.value-index c.value-item.result c.in_err-having_at.field-0.0 (each (having_at c.args.inside c.args.dimensions.now c.args.aggregations.now (codes "havingSpecs")) (items_view c.args.values.now)) c.loop-value-test.true c.value-item.is c.loop-value.invariant c.in_err-having_at.ensures)

pub each-loop-value-preserved : goal.each-loop-value-preserved
each-loop-value-preserved t c =
    rw (c.in_ok-push.ensures.items, map-append condition_in c.loop-value.conditions.items (c.in_ok-having_at.field-0 ∷ [])) (each_from-goes_on (having_at c.args.inside c.args.dimensions.now c.args.aggregations.now (codes "havingSpecs")) (map condition_in c.loop-value.conditions.items) c.args.values.now c.loop-value.value-index c.value-item.result (condition_in c.in_ok-having_at.field-0) (each (having_at c.args.inside c.args.dimensions.now c.args.aggregations.now (codes "havingSpecs")) (items_view c.args.values.now)) c.loop-value-test.true c.value-item.is c.in_ok-having_at.ensures c.loop-value.invariant)

pub each-returns : goal.each-returns
each-returns t c =
    each_from-ends (having_at c.args.inside c.args.dimensions.now c.args.aggregations.now (codes "havingSpecs")) (map condition_in c.loop-value.conditions.items) c.args.values.now c.loop-value.value-index (each (having_at c.args.inside c.args.dimensions.now c.args.aggregations.now (codes "havingSpecs")) (items_view c.args.values.now)) c.loop-value-test.false c.loop-value.invariant

pub having_at-returns-then-levels-eq0 : goal.having_at-returns-then-levels-eq0
having_at-returns-then-levels-eq0 t c =
    rw (having_at-none c.args.dimensions.now c.args.aggregations.now c.args.name.now (view c.args.value.now) c.args.levels c.if-levels-eq0.true) c.too_deep.ensures

pub having_at-returns-else-levels-eq0 : goal.having_at-returns-else-levels-eq0
having_at-returns-else-levels-eq0 t c =
    rw (having_at-some c.args.dimensions.now c.args.aggregations.now c.args.name.now (view c.args.value.now) c.args.levels c.if-levels-eq0.false) c.level.ensures
