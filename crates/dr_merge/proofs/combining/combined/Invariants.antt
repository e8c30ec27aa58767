use Rattle.std.proofs.Common.{◌≡◌, true, take}
use Rattle.dr_agg.specs.Rollup.{rollup}
use Rattle.dr_merge.proofs.combining.combined.Given as goal

abbrev pub invariant-loop-row : goal.invariant-loop-row
invariant-loop-row l = l.combined.items ≡ rollup true l.kinds (take l.row-index l.rows)
