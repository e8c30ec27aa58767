use Rattle.std.proofs.Common.{◌≡◌, map, take}
use Rattle.dr_finish.specs.Meeting.{row_meets}
use Rattle.dr_finish.proofs.meeting.met_one_by_one.Given as goal

abbrev pub invariant-loop-group : goal.invariant-loop-group
invariant-loop-group l = l.met.items ≡ map (row_meets l.asked l.by.dimensions l.aggregations) (take l.group-index l.groups)
