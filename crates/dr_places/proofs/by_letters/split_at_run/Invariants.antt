use Rattle.std.proofs.Common.{take}
use Rattle.dr_like.specs.Letters.{Lacks}
use Rattle.dr_places.proofs.by_letters.split_at_run.Given as goal

abbrev pub invariant-loop-k : goal.invariant-loop-k
invariant-loop-k l = Lacks 37 (take l.k l.pattern)
