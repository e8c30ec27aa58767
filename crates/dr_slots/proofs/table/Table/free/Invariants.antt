use Rattle.dr_slots.specs.Table.{start, AreTaken}
use Rattle.dr_slots.proofs.table.Table.free.Given as goal

abbrev pub invariant-loop-look : goal.invariant-loop-look
invariant-loop-look l = AreTaken l.self.slots.items l.look (start l.self l.hash)
