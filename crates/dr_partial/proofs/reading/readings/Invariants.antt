use Rattle.std.proofs.Common.{◌≡◌, ◌++◌, drop}
use Rattle.dr_partial.specs.Grouped.{folds_alone}
use Rattle.dr_partial.proofs.reading.readings.Given as goal

-- what was pushed, and what the aggregations that are left fold to
abbrev pub invariant-loop-aggregation : goal.invariant-loop-aggregation
invariant-loop-aggregation l = l.values.items ++ folds_alone (drop l.aggregation-index l.aggregations) l.metrics ≡ folds_alone l.aggregations l.metrics
