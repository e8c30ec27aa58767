use Rattle.std.proofs.Common.{◌≡◌, take, slice_range}
use Rattle.dr_answers.specs.Fold.{folds}
use Rattle.dr_partial.proofs.arrived_runs.folds_between.Given as goal

abbrev pub invariant-loop-aggregation : goal.invariant-loop-aggregation
invariant-loop-aggregation l = l.values.items ≡ folds (take l.aggregation-index l.aggregations) (slice_range l.rows l.from l.to)
