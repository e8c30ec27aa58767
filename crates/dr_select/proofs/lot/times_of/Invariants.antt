use Rattle.std.proofs.Common.{◌≡◌, map, take}
use Rattle.dr_rollup.specs.declared.key_of.KeyOf.{KeyOf}
use Rattle.dr_select.proofs.lot.times_of.Given as goal

abbrev pub invariant-loop-row : goal.invariant-loop-row
invariant-loop-row l = l.times.items ≡ map (λ (r : KeyOf). r.time) (take l.row-index l.rows)
