use Rattle.dr_agg.specs.Combination.{combine_columns}
use Rattle.dr_agg.proofs.SoFar.{IsSoFar}
use Rattle.dr_partial.specs.Partial.{kinds_in}
use Rattle.dr_partial.proofs.folds.combine_folds.Given as goal

abbrev pub invariant-loop-place : goal.invariant-loop-place
invariant-loop-place l = IsSoFar (kinds_in l.aggregations) l.values l.folds (combine_columns (kinds_in l.aggregations) l.initial.values l.folds) l.place
