use Rattle.std.proofs.Common.{◌≡◌, drop}
use Rattle.std.specs.List.{All}
use Rattle.serde_json.specs.View.{items_view}
use Rattle.dr_intervals.specs.IntervalsOf.{interval_in}
use Rattle.dr_base.specs.Each.{each_from, each}
use Rattle.dr_intervals.specs.Printable.{StartsPrintable}
use Rattle.dr_intervals.proofs.reading.each.Given as goal

abbrev pub invariant-loop-value : goal.invariant-loop-value
invariant-loop-value l = record {
  value : each_from interval_in l.intervals.items (items_view (drop l.value-index l.values)) ≡ each interval_in (items_view l.values);
  printable : All StartsPrintable l.intervals.items;
}
