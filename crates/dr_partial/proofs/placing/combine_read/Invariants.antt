use Rattle.std.proofs.Common.{map}
use Rattle.dr_agg.specs.Combination.{combine_columns}
use Rattle.dr_agg.proofs.SoFar.{IsSoFar}
use Rattle.dr_partial.specs.Known.{folds_read}
use Rattle.dr_partial.proofs.placing.combine_read.Given as goal

abbrev pub invariant-loop-place : goal.invariant-loop-place
invariant-loop-place l = IsSoFar (map (λ r. r.kind) l.readings) l.values (folds_read l.readings l.i) (combine_columns (map (λ r. r.kind) l.readings) l.initial.values (folds_read l.readings l.i)) l.place
