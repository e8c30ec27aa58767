use Rattle.dr_columns.specs.Rows.{truth_in}
use Rattle.dr_columns.proofs.NarrowLemmas.{NarrowsTo}
use Rattle.dr_columns.proofs.telling.keep_true.Given as goal

abbrev pub invariant-loop-i : goal.invariant-loop-i
invariant-loop-i l = NarrowsTo l.i (truth_in l.numbers l.truths l.otherwise) l.initial.told l.told
