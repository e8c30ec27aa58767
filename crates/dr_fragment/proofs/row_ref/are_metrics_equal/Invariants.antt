use Rattle.std.proofs.Common.{◌≡◌, take}
use Rattle.dr_fragment.proofs.row_ref.are_metrics_equal.Given as goal

abbrev pub invariant-loop-m : goal.invariant-loop-m
invariant-loop-m l = take l.m l.a.metrics ≡ take l.m l.b.metrics
