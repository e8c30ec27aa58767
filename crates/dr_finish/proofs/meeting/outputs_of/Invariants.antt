use Rattle.std.proofs.Common.{◌≡◌, map, take}
use Rattle.dr_having.specs.Asked.{asked_meets}
use Rattle.dr_having.specs.declared.asked_having.AskedHaving.{AskedHaving}
use Rattle.dr_having.specs.declared.group_outputs.GroupOutputs.{GroupOutputs}
use Rattle.dr_finish.specs.Meeting.{row_meets}
use Rattle.dr_finish.proofs.meeting.outputs_of.Given as goal

abbrev pub invariant-loop-group : goal.invariant-loop-group
invariant-loop-group l =
    (asked : AskedHaving) → map (λ (g : GroupOutputs). asked_meets g.dims g.values asked) l.outputs.items ≡ map (row_meets asked l.by.dimensions l.aggregations) (take l.group-index l.groups)
