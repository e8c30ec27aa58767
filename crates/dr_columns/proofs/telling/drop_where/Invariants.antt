use Rattle.std.proofs.Common.{not, false, get_or}
use Rattle.dr_columns.proofs.NarrowLemmas.{NarrowsTo}
use Rattle.dr_columns.proofs.telling.drop_where.Given as goal

abbrev pub invariant-loop-i : goal.invariant-loop-i
invariant-loop-i l = NarrowsTo l.i (λ i. not (get_or l.others i false)) l.initial.told l.told
