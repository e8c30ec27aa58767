use Rattle.std.proofs.Common.{◌≡◌, ◌∙◌, refl, sym, ap, ◌+◌, [], ◌∷◌, ◌++◌, take}
use Rattle.std.proofs.lemmas.List.{take_more}
use Rattle.dr_schema.specs.declared.metric.Metric.{Metric}
use Rattle.dr_events.specs.declared.input.Input.{Input}
use Rattle.dr_events.specs.Scalars.{IsPlaceOf}
use Rattle.dr_events.proofs.MoreNames.{more-then, read-more}
use Rattle.dr_dict.proofs.SortedTexts.{places_pushed}
use Rattle.dr_events.proofs.learning.learn_metrics.Goals as goal

pub loop-metric-preserved : goal.loop-metric-preserved
loop-metric-preserved c =
    let l = c.loop-metric in
    let metrics = c.args.metrics.now in
    let names = c.learn_field.new.names in
    let more = c.in_ok-field.ensures.kept in
    let before = take l.metric-index metrics in
    let item = c.metric-item.result in
    let input : Input = record { kind = item.kind; field = c.in_ok-field.field } in
    let taken : take (l.metric-index + 1) metrics ≡ before ++ item ∷ [] = take_more metrics l.metric-index item c.loop-metric-test.true ∙ ap (λ x. before ++ x ∷ []) (sym c.metric-item.is) in
    let kept = read-more l.names names before l.inputs.items more l.invariant.0 in (
      rw (c.in_ok-push.ensures.items, taken) (places_pushed (λ (metric : Metric) (input : Input). (input.kind ≡ metric.kind) × IsPlaceOf names metric.field input.field) before l.inputs.items item input kept (refl, c.in_ok-field.ensures.read)),
      more-then c.args.names.now l.names names l.invariant.1 more,
    )
