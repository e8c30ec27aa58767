use Rattle.std.proofs.lemmas.Result.{err_from_is_err_and}
use Rattle.std.proofs.lemmas.List.Elements.{All-push}
use Rattle.serde_json.specs.View.{items_view}
use Rattle.dr_intervals.specs.IntervalsOf.{interval_in}
use Rattle.dr_base.specs.Each.{each}
use Rattle.dr_intervals.specs.Printable.{StartsPrintable}
use Rattle.dr_intervals.specs.Refusal.{is_memory}
use Rattle.dr_base.proofs.ItemsInTurn.{each_from-goes_on, each_from-stops, each_from-ends}
use Rattle.dr_intervals.proofs.reading.each.Goals as goal

pub returns-in_err-interval-clause-value : goal.returns-in_err-interval-clause-value
returns-in_err-interval-clause-value c =
    let p = err_from_is_err_and c.from_residual.result c.from_residual.ensures.1 in
    rw (p.1, p.2) (each_from-stops is_memory interval_in c.loop-value.intervals.items c.args.values.now c.loop-value.value-index c.value-item.result c.in_err-interval.field-0.0 (each interval_in (items_view c.args.values.now)) c.loop-value-test.true c.value-item.is c.loop-value.invariant.value c.in_err-interval.ensures.value)

pub returns-clause-value : goal.returns-clause-value
returns-clause-value c =
    each_from-ends interval_in c.loop-value.intervals.items c.args.values.now c.loop-value.value-index (each interval_in (items_view c.args.values.now)) c.loop-value-test.false c.loop-value.invariant.value

pub loop-value-preserved : goal.loop-value-preserved
loop-value-preserved c = rw c.in_ok-push.ensures.items (record {
  value = each_from-goes_on interval_in c.loop-value.intervals.items c.args.values.now c.loop-value.value-index c.value-item.result c.in_ok-interval.field-0 (each interval_in (items_view c.args.values.now)) c.loop-value-test.true c.value-item.is c.in_ok-interval.ensures.value c.loop-value.invariant.value;
  printable = All-push StartsPrintable c.loop-value.intervals.items c.in_ok-interval.field-0 c.loop-value.invariant.printable c.in_ok-interval.ensures.printable;
})
