use Rattle.std.proofs.Common.{◌≡◌, map, []}
use Rattle.std.specs.List.{range_with_len}
use Rattle.dr_image.specs.Image.{metric_of}
use Rattle.dr_segment.proofs.gathering.no_values.Given as goal

abbrev pub invariant-loop : goal.invariant-loop
invariant-loop l = map (λ v. v.items) l.metrics.items ≡ map (λ m. metric_of m []) (range_with_len 0 l.counter)
