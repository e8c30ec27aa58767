use Rattle.std.proofs.Common.{◌≡◌, drop}
use Rattle.std.specs.List.{list_all}
use Rattle.dr_image.specs.Layout.{parts_in}
use Rattle.dr_image.specs.Opening.{numbers_fit}
use Rattle.dr_image.proofs.opening.are_numbers.Given as goal

abbrev pub invariant-loop-d : goal.invariant-loop-d
invariant-loop-d l = list_all numbers_fit (drop l.d (parts_in l.layout.bytes.now)) ≡ list_all numbers_fit (parts_in l.layout.bytes.now)
