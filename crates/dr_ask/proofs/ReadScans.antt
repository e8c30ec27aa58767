-- A scan that is read was made for its schema.
use Rattle.std.proofs.Common.{◌≡◌, ◌≤◌, ◌==◌, ℕ, zero, suc, length, Bool, List, [], ◌∷◌, map, codes, Ok, Err, Option, Some, None, if◌then◌else◌, refl, sym, ap, ◌∙◌, subst, arith}
use Rattle.std.proofs.Math.Dec.{eqb-suc-zero}
use Rattle.std.specs.List.{AllByRecursion}
use Rattle.dr_base.specs.declared.base_error.BaseError.TheVariants.{WrongKind}
use Rattle.dr_ask.specs.declared.query_error.QueryError.TheVariants.{Base}
use Rattle.serde_json.specs.Data.{Data, Members}
use Rattle.dr_base.specs.Fields.{field}
use Rattle.dr_schema.specs.declared.schema.Schema.{Schema}
use Rattle.dr_ask.specs.declared.aggregation.Aggregation.{Aggregation}
use Rattle.dr_ask.specs.declared.query_type.QueryType.{QueryType}
use Rattle.dr_ask.specs.declared.query_type.QueryType.TheVariants as type
use Rattle.dr_ask.specs.declared.scan.Scan.{Scan}
use Rattle.dr_ask.specs.declared.scan_column.ScanColumn.{ScanColumn}
use Rattle.dr_ask.specs.Asked.{AskedShape, timeseries, group_by, scan}
use Rattle.dr_ask.specs.ColumnsOf.{all_names, source_named, column_named, names_of, columns_of}
use Rattle.dr_ask.specs.ContextOf.{context_of}
use Rattle.dr_ask.specs.Fields.{as_whole, limit_or_none, no_unlisted}
use Rattle.dr_ask.specs.MadeFor.{MadeScan, MadeShape}
use Rattle.dr_ask.specs.ScanOf.{order_of, format_of, some_rows, batch_size_of, offset_of, scan_keys, scan_of}
use Rattle.dr_ask.specs.ShapeOf.{timeseries_of, group_by_of, shape_by}
use Rattle.dr_ask.proofs.ReadSteps.{through}

abbrev AreNamed : Schema → List ScanColumn → Type 0
AreNamed schema columns = AllByRecursion (λ c. c.source ≡ source_named schema c.name) columns

named-each : (schema : Schema) (names : List (List ℕ)) → AreNamed schema (map (column_named schema) names)
named-each schema [] = tt
named-each schema (n ∷ names) = (refl, named-each schema names)

named-columns_of : (schema : Schema) (d : Option Data) (columns : List ScanColumn) → columns_of schema d ≡ Ok columns → AreNamed schema columns
unfolding columns_of
named-columns_of schema d columns e =
    through (names_of d) _ columns e (λ names _ e.
    let made : List ScanColumn = map (column_named schema) (if length names == 0 then all_names schema else names) in
    let same : made ≡ columns = cc in
    subst (AreNamed schema) same (named-each schema (if length names == 0 then all_names schema else names)))

some_rows-batch : (n m : ℕ) → some_rows n ≡ Ok m → 1 ≤ m
some_rows-batch zero m e = absurd (cc)
some_rows-batch (suc n) m e =
    let given : some_rows (suc n) ≡ Ok (suc n) = ap (λ (b : Bool). if b then Err (Base (WrongKind (codes "batchSize"))) else Ok (suc n)) (eqb-suc-zero n) in
    let both : Ok (suc n) ≡ Ok m = sym given ∙ e in
    let same : suc n ≡ m = cc in
    subst (λ k. 1 ≤ k) same (omega arith)

rows-batch_size_of : (d : Option Data) (n : ℕ) → batch_size_of d ≡ Ok n → 1 ≤ n
rows-batch_size_of None n e = let same : 20_480 ≡ n = cc in subst (λ k. 1 ≤ k) same (omega arith)
rows-batch_size_of (Some d) n e = through (as_whole (codes "batchSize") d) _ n e (λ m _ e. some_rows-batch m n e)

made-scan_of : (schema : Schema) (d : Data) (ms : Members) (s : Scan) → scan_of schema d ms ≡ Ok s → MadeScan schema s
unfolding scan_of
made-scan_of schema d ms s e =
    through (columns_of schema (field (codes "columns") d)) _ s e (λ columns named e.
    through (order_of (field (codes "order") d)) _ s e (λ order _ e.
    through (format_of (field (codes "resultFormat") d)) _ s e (λ result_format _ e.
    through (batch_size_of (field (codes "batchSize") d)) _ s e (λ batch_size rows e.
    through (offset_of (field (codes "offset") d)) _ s e (λ offset _ e.
    through (limit_or_none (codes "limit") (field (codes "limit") d)) _ s e (λ limit _ e.
    through (context_of (field (codes "context") d)) _ s e (λ context _ e.
    through (no_unlisted scan_keys ms) _ s e (λ unlisted _ e.
    let made : Scan = record { columns = columns; order = order; result_format = result_format; batch_size = batch_size; offset = offset; limit = limit } in
    let same : made ≡ s = cc in
    subst (MadeScan schema) same (record {
      columns = named-columns_of schema (field (codes "columns") d) columns named;
      some_rows = rows-batch_size_of (field (codes "batchSize") d) batch_size rows;
    })))))))))

pub made-shape_by : (kind : QueryType) (schema : Schema) (aggregations : List Aggregation) (d : Data) (ms : Members) (shape : AskedShape)
    → shape_by kind schema aggregations d ms ≡ Ok shape → MadeShape schema shape
made-shape_by type.Timeseries schema aggregations d ms shape e =
    through (timeseries_of aggregations d ms) _ shape e (λ t read e. let same : timeseries t ≡ shape = cc in subst (MadeShape schema) same tt)
made-shape_by type.GroupBy schema aggregations d ms shape e =
    through (group_by_of schema aggregations d ms) _ shape e (λ g read e. let same : group_by g ≡ shape = cc in subst (MadeShape schema) same tt)
made-shape_by type.Scan schema aggregations d ms shape e =
    through (scan_of schema d ms) _ shape e (λ s read e. let same : scan s ≡ shape = cc in subst (MadeShape schema) same (made-scan_of schema d ms s read))
