use Rattle.std.proofs.Common.{slice_range}
use Rattle.std.specs.List.{AllByRecursion}
use Rattle.dr_partial.specs.Runs.{IsWithin}
use Rattle.dr_partial.proofs.arrived_runs.run_end.Given as goal

abbrev pub invariant-loop-i : goal.invariant-loop-i
invariant-loop-i l = AllByRecursion (IsWithin l.window) (slice_range l.rows l.from l.i)
