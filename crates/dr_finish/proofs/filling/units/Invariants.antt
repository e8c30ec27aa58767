use Rattle.std.proofs.Common.{◌≡◌, [], take}
use Rattle.dr_answers.specs.Fold.{folds}
use Rattle.dr_finish.proofs.filling.units.Given as goal

abbrev pub invariant-loop-aggregation : goal.invariant-loop-aggregation
invariant-loop-aggregation l = l.values ≡ folds (take l.aggregation-index l.aggregations) []
