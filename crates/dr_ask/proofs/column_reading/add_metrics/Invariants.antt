use Rattle.std.proofs.Common.{◌≡◌, ◌++◌, map, take}
use Rattle.dr_ask.proofs.column_reading.add_metrics.Given as goal

abbrev pub invariant-loop-metric : goal.invariant-loop-metric
invariant-loop-metric l = l.names ≡ l.initial.names ++ map (λ m. m.name) (take l.metric-index l.metrics)
