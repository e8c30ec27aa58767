use Rattle.dr_agg.specs.Combination.{combine_columns}
use Rattle.dr_agg.proofs.SoFar.{IsSoFar}
use Rattle.dr_agg.proofs.columns.combine_into.Given as goal

abbrev pub invariant-loop-place : goal.invariant-loop-place
invariant-loop-place l = IsSoFar l.kinds l.into l.from (combine_columns l.kinds l.initial.into l.from) l.place
