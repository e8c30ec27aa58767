use Rattle.std.proofs.Common.{◌≡◌, map, slice_range}
use Rattle.dr_base.specs.declared.row.Row.{Row}
use Rattle.dr_select.specs.Rows.{key_seen}
use Rattle.dr_select.proofs.rows.arrived_keys.Given as goal

abbrev pub invariant-loop-i : goal.invariant-loop-i
invariant-loop-i l = map key_seen l.keys.items ≡ map (λ (r : Row). r.key) (slice_range l.rows l.from l.i)
