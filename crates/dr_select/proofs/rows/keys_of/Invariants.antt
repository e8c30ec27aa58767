use Rattle.std.proofs.Common.{◌≡◌, map, take}
use Rattle.dr_base.specs.declared.row.Row.{Row}
use Rattle.dr_select.specs.Rows.{key_seen}
use Rattle.dr_select.proofs.rows.keys_of.Given as goal

abbrev pub invariant-loop-row : goal.invariant-loop-row
invariant-loop-row l = map key_seen l.keys.items ≡ map (λ (r : Row). r.key) (take l.row-index l.rows)
