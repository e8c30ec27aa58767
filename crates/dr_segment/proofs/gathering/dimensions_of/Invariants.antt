use Rattle.std.proofs.Common.{◌≡◌, map}
use Rattle.std.specs.List.{range_with_len}
use Rattle.dr_image.specs.Image.{column_of, values_of}
use Rattle.dr_segment.specs.Tables.{column_seen}
use Rattle.dr_segment.proofs.gathering.dimensions_of.Given as goal

abbrev pub invariant-loop-d : goal.invariant-loop-d
invariant-loop-d l = map column_seen l.dims.items ≡ map (λ d. column_of (values_of d l.rows)) (range_with_len 0 l.d)
