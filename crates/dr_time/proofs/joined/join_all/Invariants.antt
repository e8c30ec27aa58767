use Rattle.std.proofs.Common.{take, drop}
use Rattle.dr_time.specs.Joined.{AreApart, Rise, HoldSame}
use Rattle.dr_time.proofs.JoinedLemmas.{StartBefore}
use Rattle.dr_time.proofs.joined.join_all.Given as goal

abbrev pub invariant-loop-interval : goal.invariant-loop-interval
invariant-loop-interval l =
    AreApart l.joined.items × HoldSame l.joined.items (take l.interval-index l.sorted) × StartBefore l.joined.items (drop l.interval-index l.sorted) × Rise (drop l.interval-index l.sorted)
