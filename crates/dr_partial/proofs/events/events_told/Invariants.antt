use Rattle.std.proofs.Common.{◌≡◌, map, take}
use Rattle.dr_rollup.specs.Unrolled.{unrolled}
use Rattle.dr_base.specs.declared.event.Event.{Event}
use Rattle.dr_select.specs.Rows.{key_seen}
use Rattle.dr_partial.proofs.events.events_told.Given as goal

abbrev pub invariant-loop-shared : goal.invariant-loop-shared
invariant-loop-shared l = map key_seen l.keys.items ≡ map (λ (e : Event). (unrolled l.schema e).key) (take l.shared-index l.events)
