-- The columns of a query that is read are those of its schema.
use Rattle.std.proofs.Common.{◌≡◌, ℕ, suc, ◌+◌, List, [], ◌∷◌, map, Bool, true, false, bytes_eq, codes, Ok, Option, Some, None, option_map, find, slice_get, refl, subst, ◌∙◌, arith}
use Rattle.std.specs.List.{AllByRecursion, enumerate_from}
use Rattle.serde_json.specs.Data.{Data, Members}
use Rattle.dr_base.specs.Fields.{as_list, as_object, text_field}
use Rattle.dr_base.specs.Reading.{passed}
use Rattle.dr_agg.specs.declared.kind.Kind.{Kind}
use Rattle.dr_agg.specs.declared.kind.Kind.TheVariants.{Count, LongSum, LongMin, LongMax}
use Rattle.dr_schema.specs.Columns.{kinds_of}
use Rattle.dr_schema.specs.declared.metric.Metric.{Metric}
use Rattle.dr_schema.specs.declared.schema.Schema.{Schema}
use Rattle.dr_ask.specs.declared.aggregation.Aggregation.{Aggregation}
use Rattle.dr_ask.specs.declared.column.Column.{Column}
use Rattle.dr_ask.specs.declared.query_error.QueryError.TheVariants.{Base}
use Rattle.dr_ask.specs.AggregationsOf.{no_dimension, column_of, kind_named, count_of, over_column_of, of_kind, aggregation_by, aggregation_of, aggregations_of}
use Rattle.dr_ask.specs.Fields.{no_unlisted}
use Rattle.dr_ask.specs.MadeFor.{IsColumn}
use Rattle.dr_ask.specs.QueryOf.{aggregations_by}
use Rattle.dr_ask.specs.declared.query_type.QueryType.{QueryType}
use Rattle.dr_ask.specs.declared.query_type.QueryType.TheVariants as type
use Rattle.dr_ask.proofs.ReadSteps.{through, each-all}

abbrev ReadsIts : Schema → Aggregation → Type 0
ReadsIts schema a = IsColumn (kinds_of schema) a.column

-- ---- the column of a name

abbrev column_from : (metrics : List Metric) (name : List ℕ) (before : ℕ) → Option Column
column_from metrics name before = option_map (λ m. record { place = m.0; kind = m.1.kind }) (find (λ m. bytes_eq m.1.name name) (enumerate_from before metrics))

-- a column that is found from a number on stands that much later
abbrev Stands : List Kind → ℕ → Option Column → Type 0
Stands kinds before None = Unit {0}
Stands kinds before (Some c) = (k : ℕ) × (c.place ≡ before + k) × (slice_get kinds k ≡ Some c.kind)

Stands-later : (kind : Kind) (kinds : List Kind) (before : ℕ) (c : Option Column) → Stands kinds (before + 1) c → Stands (kind ∷ kinds) before c
Stands-later kind kinds before None h = tt
Stands-later kind kinds before (Some c) (k, place, at) = (suc k, place ∙ omega arith, at)

Stands-column : (metrics : List Metric) (name : List ℕ) (before : ℕ) → Stands (map (λ m. m.kind) metrics) before (column_from metrics name before)
Stands-column [] name before = tt
Stands-column (m ∷ metrics) name before = at (bytes_eq m.name name) refl (Stands-column metrics name (before + 1))
  where
    at : (b : Bool) → bytes_eq m.name name ≡ b → Stands (map (λ m. m.kind) metrics) (before + 1) (column_from metrics name (before + 1))
        → Stands (map (λ m. m.kind) (m ∷ metrics)) before (column_from (m ∷ metrics) name before)
    at true e later = rw e (0, omega arith, refl)
    at false e later = rw e (Stands-later m.kind (map (λ m. m.kind) metrics) before (column_from metrics name (before + 1)) later)

IsColumn-stands : (kinds : List Kind) (c : Option Column) → Stands kinds 0 c → IsColumn kinds c
IsColumn-stands kinds None h = tt
IsColumn-stands kinds (Some c) (k, place, at) = let same : c.place ≡ k = place ∙ omega arith in rw same at

IsColumn-column_of : (schema : Schema) (name : List ℕ) → IsColumn (kinds_of schema) (column_of schema.metrics name)
IsColumn-column_of schema name = IsColumn-stands (kinds_of schema) (column_of schema.metrics name) (Stands-column schema.metrics name 0)

-- ---- an aggregation

of_count : (schema : Schema) (d : Data) (ms : Members) (a : Aggregation) → count_of d ms ≡ Ok a → ReadsIts schema a
unfolding count_of
of_count schema d ms a e =
    through (passed Base (text_field (codes "name") d)) _ a e (λ name _ e.
    through (no_unlisted (codes "type" ∷ codes "name" ∷ []) ms) _ a e (λ unlisted _ e.
    let made : Aggregation = record { name = name; kind = Count; column = None } in
    let same : made ≡ a = cc in
    subst (ReadsIts schema) same tt))

of_column : (kind : Kind) (schema : Schema) (d : Data) (ms : Members) (a : Aggregation) → over_column_of kind schema d ms ≡ Ok a → ReadsIts schema a
unfolding over_column_of
of_column kind schema d ms a e =
    through (passed Base (text_field (codes "name") d)) _ a e (λ name _ e.
    through (passed Base (text_field (codes "fieldName") d)) _ a e (λ read _ e.
    through (no_dimension schema read) _ a e (λ dimension _ e.
    through (no_unlisted (codes "type" ∷ codes "name" ∷ codes "fieldName" ∷ []) ms) _ a e (λ unlisted _ e.
    let made : Aggregation = record { name = name; kind = kind; column = column_of schema.metrics read } in
    let same : made ≡ a = cc in
    subst (ReadsIts schema) same (IsColumn-column_of schema read)))))

by_kind : (kind : Kind) (schema : Schema) (d : Data) (ms : Members) (a : Aggregation) → of_kind kind schema d ms ≡ Ok a → ReadsIts schema a
by_kind Count schema d ms a e = of_count schema d ms a e
by_kind LongSum schema d ms a e = of_column LongSum schema d ms a e
by_kind LongMin schema d ms a e = of_column LongMin schema d ms a e
by_kind LongMax schema d ms a e = of_column LongMax schema d ms a e

by_type : (kind : Option Kind) (type : List ℕ) (schema : Schema) (d : Data) (ms : Members) (a : Aggregation) → aggregation_by kind type schema d ms ≡ Ok a → ReadsIts schema a
by_type None type schema d ms a e = cc
by_type (Some kind) type schema d ms a e = by_kind kind schema d ms a e

of_item : (schema : Schema) (d : Data) (a : Aggregation) → aggregation_of schema d ≡ Ok a → ReadsIts schema a
unfolding aggregation_of
of_item schema d a e =
    through (passed Base (as_object (codes "aggregations") d)) _ a e (λ members _ e.
    through (passed Base (text_field (codes "type") d)) _ a e (λ type _ e. by_type (kind_named type) type schema d members a e))

-- ---- all of them

pub columns-aggregations_of : (schema : Schema) (d : Option Data) (all : List Aggregation) → aggregations_of schema d ≡ Ok all → AllByRecursion (ReadsIts schema) all
columns-aggregations_of schema None all e = let same : [] ≡ all = cc in subst (AllByRecursion (ReadsIts schema)) same tt
columns-aggregations_of schema (Some d) all e =
    through (passed Base (as_list (codes "aggregations") d)) _ all e (λ items _ e. each-all (ReadsIts schema) (aggregation_of schema) (of_item schema) [] items all tt e)

pub columns-aggregations_by : (kind : QueryType) (schema : Schema) (d : Option Data) (all : List Aggregation) → aggregations_by kind schema d ≡ Ok all → AllByRecursion (ReadsIts schema) all
columns-aggregations_by type.Timeseries schema d all e = columns-aggregations_of schema d all e
columns-aggregations_by type.GroupBy schema d all e = columns-aggregations_of schema d all e
columns-aggregations_by type.Scan schema d all e = let same : [] ≡ all = cc in subst (AllByRecursion (ReadsIts schema)) same tt
