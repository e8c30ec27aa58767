use Rattle.std.proofs.Common.{◌≡◌, map, slice_range}
use Rattle.std.specs.List.{fold}
use Rattle.dr_agg.specs.Combination.{combine_of}
use Rattle.dr_answers.specs.Fold.{reading_in, folded}
use Rattle.dr_partial.proofs.arrived_runs.fold_between.Given as goal

-- what is folded so far, combined with what is left
abbrev pub invariant-loop-i : goal.invariant-loop-i
invariant-loop-i l =
    fold (combine_of l.aggregation.kind) l.folded (map (reading_in l.aggregation.kind l.aggregation.column) (slice_range l.rows l.i l.to)) ≡ folded l.aggregation (slice_range l.rows l.from l.to)
