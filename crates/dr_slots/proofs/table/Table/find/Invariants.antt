use Rattle.std.proofs.Common.{ℕ, ◌+◌, ◌-◌}
use Rattle.dr_slots.specs.Table.{start, Finds, FindsFrom}
use Rattle.dr_slots.proofs.table.Table.find.Given as goal

abbrev pub invariant-loop-look : goal.invariant-loop-look
invariant-loop-look g l = (place : ℕ) → Finds l.self l.hash place → g.S.Sought.stands l.sought place → FindsFrom l.self.slots.items (64 - l.look) (start l.self l.hash + l.look) l.hash place
