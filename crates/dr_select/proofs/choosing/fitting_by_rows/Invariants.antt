use Rattle.dr_predicate.specs.declared.value_test.ValueTest.TheVariants.{Like}
use Rattle.dr_predicate.specs.Match.{passes}
use Rattle.dr_select.specs.Rows.{value_of}
use Rattle.dr_rowindex.proofs.TellLemmas.{TellTo}
use Rattle.dr_select.proofs.choosing.fitting_by_rows.Given as goal

abbrev pub invariant-loop-i : goal.invariant-loop-i
invariant-loop-i l = TellTo l.i (λ row. passes (Like l.pattern) (value_of l.place row)) l.rows l.set
