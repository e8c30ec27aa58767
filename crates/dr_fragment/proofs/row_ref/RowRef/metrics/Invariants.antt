use Rattle.std.proofs.Common.{◌≡◌, take}
use Rattle.dr_fragment.proofs.row_ref.RowRef.metrics.Given as goal

abbrev pub invariant-loop-m : goal.invariant-loop-m
invariant-loop-m l = l.metrics ≡ take l.m l.self.metrics
