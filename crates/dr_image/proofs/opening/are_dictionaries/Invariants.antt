use Rattle.std.proofs.Common.{◌≡◌, drop}
use Rattle.std.specs.List.{list_all}
use Rattle.dr_image.specs.Layout.{parts_in}
use Rattle.dr_image.specs.Opening.{is_dictionary}
use Rattle.dr_image.proofs.opening.are_dictionaries.Given as goal

abbrev pub invariant-loop-d : goal.invariant-loop-d
invariant-loop-d l = list_all is_dictionary (drop l.d (parts_in l.layout.bytes.now)) ≡ list_all is_dictionary (parts_in l.layout.bytes.now)
