use Rattle.std.proofs.Common.{◌≡◌, take}
use Rattle.dr_schema.proofs.metrics.copy_all.Given as goal

abbrev pub invariant-loop-metric : goal.invariant-loop-metric
invariant-loop-metric l = l.copies.items ≡ take l.metric-index l.metrics
