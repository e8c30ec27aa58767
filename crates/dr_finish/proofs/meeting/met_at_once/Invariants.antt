use Rattle.std.proofs.Common.{◌≡◌, ◌≤◌, ◌-◌, length, map, take}
use Rattle.dr_finish.specs.Meeting.{row_meets}
use Rattle.dr_finish.proofs.meeting.met_at_once.Given as goal

abbrev pub invariant-loop-from : goal.invariant-loop-from
invariant-loop-from l = (l.from ≤ length l.groups) × (l.met.items ≡ map (row_meets l.asked l.by.dimensions l.aggregations) (take l.from l.groups))

abbrev pub decreases-loop-from : goal.decreases-loop-from
decreases-loop-from l = length l.groups - l.from
