use Rattle.std.proofs.Common.{◌≡◌, ◌+◌, length, take, min}
use Rattle.std.specs.List.{flat_map}
use Rattle.dr_image.specs.Words.{spelled_longs}
use Rattle.dr_image.specs.Image.{bytes_of_column}
use Rattle.dr_segment.specs.Tables.{column_seen}
use Rattle.dr_segment.proofs.size.image_size.Given as goal

-- the sizes so far
abbrev pub invariant-loop-metric : goal.invariant-loop-metric
invariant-loop-metric l = l.size ≡ min (length (spelled_longs l.columns.times.items) + 80 + length (flat_map (λ m. spelled_longs m.items) (take l.metric-index l.columns.metrics.items))) 18446744073709551615

abbrev pub invariant-loop-dimension : goal.invariant-loop-dimension
invariant-loop-dimension l = l.size ≡ min (length (spelled_longs l.columns.times.items) + 80 + length (flat_map (λ m. spelled_longs m.items) l.columns.metrics.items) + length (flat_map (λ d. bytes_of_column (column_seen d)) (take l.dimension-index l.columns.dims.items))) 18446744073709551615
