use Rattle.std.proofs.Common.{◌≡◌, take}
use Rattle.dr_agg.specs.Rollup.{all_rows}
use Rattle.dr_merge.proofs.inputs.rows_of_all.Given as goal

abbrev pub invariant-loop-input : goal.invariant-loop-input
invariant-loop-input l = l.rows.items ≡ all_rows (take l.input-index l.inputs)
