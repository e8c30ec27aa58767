use Rattle.std.proofs.Common.{◌≡◌, ◌++◌}
use Rattle.dr_finish.proofs.filling.collected.Given as goal

abbrev pub invariant-loop-start : goal.invariant-loop-start
invariant-loop-start l = l.starts.items ++ l.start-iterator ≡ l.fn.buckets
