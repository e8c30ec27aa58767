use Rattle.std.proofs.Common.{◌≡◌, ◌∙◌, [], pos, ap, map, get_or}
use Rattle.std.proofs.lemmas.List.{get_or_default}
use Rattle.dr_base.specs.declared.row.Row.{Row}
use Rattle.dr_having.specs.Asked.{asked_meets}
use Rattle.dr_having.specs.declared.group_outputs.GroupOutputs.{GroupOutputs}
use Rattle.dr_finish.specs.Meeting.{row_meets}
use Rattle.dr_finish.proofs.AtOnce.{told-at, one-told}
use Rattle.dr_finish.proofs.meeting.put_met.Goals as goal

pub loop-i-preserved : goal.loop-i-preserved
loop-i-preserved c =
    let asked = c.args.asked.now in
    let groups = c.args.groups.now in
    let i = c.loop-i.i in
    let test = row_meets asked c.args.by.now.dimensions c.args.aggregations.now in
    let none : Row = record { key = record { time = pos 0; dims = [] }; metrics = [] } in
    let group = get_or groups i none in
    let here = get_or_default groups i none group c.loop-i-test.true in
    let told : c.in_ok-told.told ≡ map test groups =
    c.in_ok-told.ensures ∙ ap (map (λ (g : GroupOutputs). asked_meets g.dims g.values asked)) c.as_slice.ensures.value ∙ c.in_ok-outputs.ensures asked in
    let same = c.contains.ensures ∙ told-at test groups i group c.in_ok-told.told told c.loop-i-test.true here in
    one-told test groups i group c.contains.result c.args.met.now.items c.loop-i.met.items c.push.new.self.items c.loop-i-test.true here same c.in_ok-push.ensures.items c.loop-i.invariant
