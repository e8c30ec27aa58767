use Rattle.std.proofs.Common.{◌∙◌, ap, map}
use Rattle.std.proofs.lemmas.List.{take_all}
use Rattle.dr_base.specs.declared.event.Event.{Event}
use Rattle.dr_filter.specs.Condition.{condition_in}
use Rattle.dr_rollup.specs.Unrolled.{unrolled}
use Rattle.dr_select.specs.Rows.{meets}
use Rattle.dr_partial.proofs.AtOnce.{told-of}
use Rattle.dr_partial.proofs.events.events_told.Goals as goal

pub returns : goal.returns
returns c =
    let condition = condition_in c.args.filter.now in
    let key = λ (e : Event). (unrolled c.args.schema.now e).key in
    told-of condition key c.loop-shared.keys.items c.args.events.now c.in_ok-told.told
    (c.in_ok-told.ensures ∙ ap (map (meets condition)) c.as_slice.ensures.value) (c.loop-shared.invariant ∙ ap (map key) (take_all c.loop-shared.shared-index c.args.events.now c.loop-shared-test.false))
