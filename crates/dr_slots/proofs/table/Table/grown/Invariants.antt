use Rattle.std.proofs.Common.{◌≡◌, ℕ, suc, ◌<◌, Some, slice_get}
use Rattle.dr_slots.specs.declared.slot.Slot.{Slot}
use Rattle.dr_slots.specs.Table.{Finds}
use Rattle.dr_slots.proofs.table.Table.grown.Given as goal

abbrev pub invariant-loop-i : goal.invariant-loop-i
invariant-loop-i l = (b place : ℕ) (s : Slot) → b < l.i → slice_get l.self.slots.items b ≡ Some s → s.end ≡ suc place → Finds l.table s.hash place
