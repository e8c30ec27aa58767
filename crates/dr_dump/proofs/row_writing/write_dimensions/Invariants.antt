use Rattle.std.proofs.Common.{◌≡◌, ◌++◌, take}
use Rattle.std.specs.List.{flat_map}
use Rattle.dr_image.specs.Table.{value_at}
use Rattle.dr_dump.specs.Dump.{dimension_data}
use Rattle.dr_dump.specs.Written.{data_tokens}
use Rattle.dr_dump.proofs.row_writing.write_dimensions.Given as goal

abbrev pub invariant-loop-d : goal.invariant-loop-d
invariant-loop-d l = (l.out.before ≡ l.fn.out.before) × (l.out.tokens ≡ l.fn.out.tokens ++ flat_map (λ c. data_tokens (dimension_data (value_at c l.i))) (take l.d l.view.dims))
