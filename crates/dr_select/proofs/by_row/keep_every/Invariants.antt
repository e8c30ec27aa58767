use Rattle.dr_filter.specs.Condition.{conditions_in, every_matches}
use Rattle.dr_select.proofs.KeptLemmas.{KeptTo}
use Rattle.dr_select.proofs.by_row.keep_every.Given as goal

abbrev pub invariant-loop-i : goal.invariant-loop-i
invariant-loop-i l = KeptTo l.i (λ row. every_matches row.time row.dims.now (conditions_in l.filters)) l.rows l.some l.kept
