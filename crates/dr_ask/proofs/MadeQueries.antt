-- A query that is read of a text was made for the schema.
use Rattle.std.proofs.Common.{◌≡◌, ℕ, List, Ok, codes, refl, subst}
use Rattle.serde_json.specs.Data.{Data, Members}
use Rattle.dr_base.specs.Fields.{field, as_object, text_field}
use Rattle.dr_base.specs.Json.{json_of}
use Rattle.dr_base.specs.Reading.{passed}
use Rattle.dr_intervals.specs.IntervalsOf.{intervals_of}
use Rattle.dr_schema.specs.declared.schema.Schema.{Schema}
use Rattle.dr_ask.specs.declared.query_error.QueryError.TheVariants.{Base}
use Rattle.dr_ask.specs.declared.query_type.QueryType.{QueryType}
use Rattle.dr_ask.specs.Asked.{Asked}
use Rattle.dr_ask.specs.MadeFor.{MadeFor}
use Rattle.dr_ask.specs.QueryOf.{granularity_by, aggregations_by, filter_or_none, asked_of, query_of}
use Rattle.dr_ask.specs.Refusal.{of_intervals}
use Rattle.dr_ask.specs.ShapeOf.{shape_by}
use Rattle.dr_ask.specs.SourceOf.{source_of}
use Rattle.dr_ask.specs.TypeOf.{type_named}
use Rattle.dr_ask.proofs.ReadColumns.{columns-aggregations_by}
use Rattle.dr_ask.proofs.ReadIntervals.{starts-intervals_of}
use Rattle.dr_ask.proofs.ReadNames.{outputs-differ}
use Rattle.dr_ask.proofs.ReadScans.{made-shape_by}
use Rattle.dr_ask.proofs.ReadSteps.{through, passed_through}

asked_of-made : (schema : Schema) (type : QueryType) (d : Data) (members : Members) (q : Asked) → asked_of schema type d members ≡ Ok q → MadeFor schema q
unfolding asked_of
asked_of-made schema type d members q e =
    through (passed of_intervals (intervals_of d)) _ q e (λ intervals starts e.
    through (granularity_by type d) _ q e (λ granularity _ e.
    through (filter_or_none schema (field (codes "filter") d)) _ q e (λ filter _ e.
    through (aggregations_by type schema (field (codes "aggregations") d)) _ q e (λ aggregations columns e.
    through (shape_by type schema aggregations d members) _ q e (λ shape names e.
    let made : Asked = record { intervals = intervals; granularity = granularity; filter = filter; aggregations = aggregations; shape = shape; rollup = schema.rollup } in
    let same : made ≡ q = cc in
    subst (MadeFor schema) same (record {
      rollup = refl;
      columns = columns-aggregations_by type schema (field (codes "aggregations") d) aggregations columns;
      distinct = outputs-differ type schema (field (codes "aggregations") d) aggregations d members shape columns names;
      printable = starts-intervals_of d intervals (passed_through of_intervals (intervals_of d) intervals starts);
      shape = made-shape_by type schema aggregations d members shape names;
    }))))))

pub query_of-made : (schema : Schema) (text : List ℕ) (q : Asked) → query_of schema text ≡ Ok q → MadeFor schema q
unfolding query_of
query_of-made schema text q e =
    through (passed Base (json_of text)) _ q e (λ d _ e.
    through (passed Base (as_object (codes "query") d)) _ q e (λ members _ e.
    through (passed Base (text_field (codes "queryType") d)) _ q e (λ name _ e.
    through (type_named name) _ q e (λ type _ e.
    through (source_of schema.data_source d) _ q e (λ source _ e.
    asked_of-made schema type d members q e)))))
