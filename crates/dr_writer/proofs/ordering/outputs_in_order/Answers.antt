use Rattle.std.proofs.Common.{◌∙◌, ap, List, ℕ}
use Rattle.std.proofs.lemmas.Result.{IfOk-weaker}
use Rattle.dr_ask.specs.Asked.{asked}
use Rattle.dr_ask.specs.Outputs.{aggregation_names, dimension_names}
use Rattle.dr_ask.specs.Asked.{dimensions_by}
use Rattle.dr_writer.specs.declared.output.Place.{Place}
use Rattle.dr_writer.specs.Outputs.{dim_at, value_at, with_places}
use Rattle.dr_writer.proofs.OutputsLaws.{members-in_order}
use Rattle.dr_writer.proofs.ordering.outputs_in_order.Goals as goal

pub returns : goal.returns
returns c =
    let q = asked c.args.query.now in
    let shaped = c.in_ok-add_shape.ensures ∙ ap (λ (es : List (List ℕ × Place)). with_places dim_at 0 es (dimension_names (dimensions_by q.shape))) c.new-places.ensures.empty in
    let listed = ap (λ l. with_places value_at 0 c.add_shape.new.places.entries (aggregation_names l)) c.as_slice.ensures in
    let placed = c.in_ok-add_aggregations.ensures ∙ listed ∙ ap (λ (es : List (List ℕ × Place)). with_places value_at 0 es (aggregation_names q.aggregations)) shaped in
    IfOk-weaker c.outputs_of.result _ _ (λ os is g. members-in_order q g c.add_aggregations.new.places.entries os.items c.requires placed is) c.outputs_of.ensures
