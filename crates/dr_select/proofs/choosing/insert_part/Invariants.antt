use Rattle.dr_select.specs.Parts.{AddsPart}
use Rattle.dr_select.proofs.choosing.insert_part.Given as goal

abbrev pub invariant-loop-row : goal.invariant-loop-row
invariant-loop-row l = AddsPart l.part l.from l.row l.initial.set l.set
