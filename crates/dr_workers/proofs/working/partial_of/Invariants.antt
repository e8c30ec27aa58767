use Rattle.std.proofs.Common.{take}
use Rattle.dr_workers.specs.Gathered.{AreGathered}
use Rattle.dr_workers.specs.Shared.{rows_of}
use Rattle.dr_workers.proofs.working.partial_of.Given as goal

abbrev pub invariant-loop-i : goal.invariant-loop-i
invariant-loop-i g l = AreGathered l.query (rows_of (take l.i l.fragments)) l.groups l.waiting.items
