use Rattle.std.proofs.Common.{take}
use Rattle.dr_workers.specs.Gathered.{ArePut}
use Rattle.dr_workers.proofs.waiting.put_each.Given as goal

abbrev pub invariant-loop-i : goal.invariant-loop-i
invariant-loop-i l = ArePut l.query l.initial.waiting.items (take l.i l.rows) l.waiting.items
