use Rattle.std.proofs.Common.{◌≡◌, drop}
use Rattle.dr_agg.specs.Rollup.{rows_at}
use Rattle.dr_fragment.proofs.alike.next_of.Given as goal

abbrev pub invariant-loop-i : goal.invariant-loop-i
invariant-loop-i l = rows_at l.row.key (drop l.from l.rows) ≡ rows_at l.row.key (drop l.i l.rows)
