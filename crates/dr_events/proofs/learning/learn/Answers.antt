use Rattle.std.proofs.Common.{◌∙◌, ap, subst, Some}
use Rattle.std.proofs.lemmas.Result.{on_ok_weaker}
use Rattle.dr_events.specs.Scalars.{AreNamed, AreRead}
use Rattle.dr_events.proofs.MoreNames.{more-then, get-more, named-more}
use Rattle.dr_events.proofs.learning.learn.Goals as goal

pub returns : goal.returns
returns c =
    let first = c.add.new.self in
    let second = c.learn_dimensions.new.names in
    let last = c.learn_metrics.new.names in
    let more = c.learn_metrics.ensures.kept in
    let place = c.in_ok-places.field-0 in
    let time = get-more first last place c.time_column.result.now (more-then first second last c.in_ok-next.ensures.kept more) c.in_ok-places.ensures.place ∙ ap Some c.time_column.ensures in
    let named = subst (λ columns. AreNamed last columns c.learn_dimensions.new.places.items) (c.as_slice.ensures ∙ c.dimensions.ensures) (named-more second last c.as_slice.result.now c.learn_dimensions.new.places.items more c.in_ok-next.ensures.named) in
    on_ok_weaker c.learn_metrics.result (λ read. (time, named, subst (λ metrics. AreRead last metrics c.learn_metrics.new.inputs.items) (c.as_slice-2.ensures ∙ c.metrics.ensures) read)) c.learn_metrics.ensures.read
