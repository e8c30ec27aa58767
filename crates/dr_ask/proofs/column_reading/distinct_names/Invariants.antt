use Rattle.std.proofs.Common.{◌≡◌, [], drop}
use Rattle.serde_json.specs.View.{items_view}
use Rattle.dr_ask.specs.ColumnsOf.{names_from}
use Rattle.dr_ask.proofs.column_reading.distinct_names.Given as goal

abbrev pub invariant-loop-value : goal.invariant-loop-value
invariant-loop-value l = record {
  same : l.seen ≡ l.names;
  left : names_from l.names (items_view (drop l.value-index l.values)) ≡ names_from [] (items_view l.values);
}
