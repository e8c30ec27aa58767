use Rattle.std.proofs.Common.{◌≡◌, ◌||◌, ℤ, drop}
use Rattle.dr_time.specs.Union.{union_holds}
use Rattle.dr_filter.specs.Times.{some_held}
use Rattle.dr_filter.proofs.times.some_time.Given as goal

abbrev pub invariant-loop-union : goal.invariant-loop-union
invariant-loop-union l = (t : ℤ) → (union_holds l.intervals.items t || some_held t (drop l.union-index l.unions)) ≡ some_held t l.unions
