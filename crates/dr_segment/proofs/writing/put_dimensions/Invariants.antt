use Rattle.std.proofs.Common.{◌≡◌, ◌++◌, take}
use Rattle.std.specs.List.{flat_map}
use Rattle.dr_image.specs.Image.{bytes_of_column}
use Rattle.dr_segment.specs.Tables.{column_seen}
use Rattle.dr_segment.proofs.writing.put_dimensions.Given as goal

abbrev pub invariant-loop-dimension : goal.invariant-loop-dimension
invariant-loop-dimension l = l.out.items ≡ l.fn.out.items ++ flat_map (λ d. bytes_of_column (column_seen d)) (take l.dimension-index l.dims)
