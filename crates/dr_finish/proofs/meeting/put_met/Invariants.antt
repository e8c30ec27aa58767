use Rattle.std.proofs.Common.{◌≡◌, ◌++◌, map, take}
use Rattle.dr_finish.specs.Meeting.{row_meets}
use Rattle.dr_finish.proofs.meeting.put_met.Given as goal

abbrev pub invariant-loop-i : goal.invariant-loop-i
invariant-loop-i l = l.met.items ≡ l.initial.met.items ++ map (row_meets l.asked l.by.dimensions l.aggregations) (take l.i l.groups)
