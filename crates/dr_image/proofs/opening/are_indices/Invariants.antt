use Rattle.std.proofs.Common.{◌≡◌, drop}
use Rattle.std.specs.List.{list_all}
use Rattle.dr_image.specs.Layout.{parts_in}
use Rattle.dr_image.specs.Opening.{is_index}
use Rattle.dr_image.proofs.opening.are_indices.Given as goal

abbrev pub invariant-loop-d : goal.invariant-loop-d
invariant-loop-d l = list_all is_index (drop l.d (parts_in l.layout.bytes.now)) ≡ list_all is_index (parts_in l.layout.bytes.now)
