use Rattle.std.proofs.Common.{◌≡◌, ◌++◌, take}
use Rattle.std.specs.List.{flat_map}
use Rattle.dr_image.specs.Words.{spelled_longs}
use Rattle.dr_segment.proofs.writing.put_metrics.Given as goal

abbrev pub invariant-loop-metric : goal.invariant-loop-metric
invariant-loop-metric l = l.out.items ≡ l.fn.out.items ++ flat_map (λ m. spelled_longs m.items) (take l.metric-index l.metrics)
