use Rattle.std.proofs.Common.{◌≡◌, map, take}
use Rattle.dr_select.specs.Rows.{value_of}
use Rattle.dr_select.proofs.lot.values_at.Given as goal

abbrev pub invariant-loop-row : goal.invariant-loop-row
invariant-loop-row l = map (λ v. v.now) l.values.items ≡ map (value_of l.place) (take l.row-index l.rows)
