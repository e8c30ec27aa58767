use Rattle.dr_predicate.specs.Match.{holds_of}
use Rattle.dr_rowindex.proofs.TellLemmas.{TellTo}
use Rattle.dr_select.proofs.choosing.passing_by_rows.Given as goal

abbrev pub invariant-loop-i : goal.invariant-loop-i
invariant-loop-i l = TellTo l.i (λ row. holds_of l.test row.dims.now) l.rows l.set
