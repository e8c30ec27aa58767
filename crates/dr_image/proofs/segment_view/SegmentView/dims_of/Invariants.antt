use Rattle.std.proofs.Common.{◌≡◌, map, take}
use Rattle.dr_image.specs.Table.{value_at}
use Rattle.dr_image.proofs.segment_view.SegmentView.dims_of.Given as goal

abbrev pub invariant-loop-d : goal.invariant-loop-d
invariant-loop-d l = l.dims ≡ map (λ c. value_at c l.i) (take l.d l.self.dims)
