use Rattle.std.proofs.Common.{drop}
use Rattle.dr_time.specs.Joined.{AreApart}
use Rattle.dr_time.proofs.GapLemmas.{StartBy, AreGapsUpTo}
use Rattle.dr_time.proofs.joined.gaps_of.Given as goal

abbrev pub invariant-loop-other : goal.invariant-loop-other
invariant-loop-other l =
    AreApart l.gaps.items × StartBy l.from l.gaps.items × AreApart (drop l.other-index l.others)
    × AreGapsUpTo l.within l.others l.gaps.items l.from (drop l.other-index l.others)
