use Rattle.std.proofs.Common.{◌≡◌, map, take}
use Rattle.std.specs.List.{range_with_len}
use Rattle.dr_image.specs.Image.{metric_of}
use Rattle.dr_segment.proofs.gathering.metrics_of.Given as goal

abbrev pub invariant-loop-row : goal.invariant-loop-row
invariant-loop-row l = map (λ v. v.items) l.metrics.items ≡ map (λ m. metric_of m (take l.row-index l.rows)) (range_with_len 0 l.count)
