use Rattle.dr_agg.specs.Combination.{combine_columns}
use Rattle.dr_agg.proofs.SoFar.{IsSoFar}
use Rattle.dr_partial.specs.Grouped.{folds_alone}
use Rattle.dr_partial.specs.Partial.{kinds_in}
use Rattle.dr_partial.proofs.reading.combine_reading.Given as goal

abbrev pub invariant-loop-place : goal.invariant-loop-place
invariant-loop-place l = IsSoFar (kinds_in l.aggregations) l.values (folds_alone l.aggregations l.metrics) (combine_columns (kinds_in l.aggregations) l.initial.values (folds_alone l.aggregations l.metrics)) l.place
