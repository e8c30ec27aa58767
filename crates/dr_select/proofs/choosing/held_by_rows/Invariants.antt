use Rattle.dr_time.specs.Union.{union_holds}
use Rattle.dr_rowindex.proofs.TellLemmas.{TellTo}
use Rattle.dr_select.proofs.choosing.held_by_rows.Given as goal

abbrev pub invariant-loop-i : goal.invariant-loop-i
invariant-loop-i l = TellTo l.i (λ row. union_holds l.union row.time) l.rows l.set
