-- What a scan asks, with its fields in the order of their table (Apache Druid documentation, scan queries).
use Rattle.std.specs.Prelude.{ℕ, ◌==◌, List, [], ◌∷◌, Option, Some, None, Result, Ok, Err, if◌then◌else◌, bytes_eq, codes}
use Rattle.serde_json.specs.Data.{Data, Members}
use Rattle.dr_base.specs.declared.base_error.BaseError.TheVariants.{WrongKind}
use Rattle.dr_base.specs.Fields.{field, as_text}
use Rattle.dr_base.specs.Reading.{◌>>=◌, passed}
use Rattle.dr_schema.specs.declared.schema.Schema.{Schema}
use Rattle.dr_ask.specs.declared.query_error.QueryError.{QueryError}
use Rattle.dr_ask.specs.declared.query_error.QueryError.TheVariants.{Base, Unsupported}
use Rattle.dr_ask.specs.declared.result_format.ResultFormat.{ResultFormat}
use Rattle.dr_ask.specs.declared.result_format.ResultFormat.TheVariants as format
use Rattle.dr_ask.specs.declared.scan.Scan.{Scan}
use Rattle.dr_ask.specs.declared.time_order.TimeOrder.{TimeOrder}
use Rattle.dr_ask.specs.declared.time_order.TimeOrder.TheVariants.{Ascending, Descending}
use Rattle.dr_ask.specs.ColumnsOf.{columns_of}
use Rattle.dr_ask.specs.ContextOf.{context_of}
use Rattle.dr_ask.specs.Fields.{as_whole, limit_or_none, no_unlisted}

-- `order`: none where it is absent
abbrev pub order_named : List ℕ → Result (Option TimeOrder) QueryError
order_named name =
    if bytes_eq name (codes "none") then Ok None
    else (if bytes_eq name (codes "ascending") then Ok (Some Ascending)
    else (if bytes_eq name (codes "descending") then Ok (Some Descending) else Err (Unsupported name)))

abbrev pub order_of : Option Data → Result (Option TimeOrder) QueryError
order_of None = Ok None
order_of (Some d) = do
  name ← passed Base (as_text (codes "order") d)
  order_named name

-- `resultFormat`: a list where it is absent
abbrev pub format_named : List ℕ → Result ResultFormat QueryError
format_named name =
    if bytes_eq name (codes "list") then Ok format.List
    else (if bytes_eq name (codes "compactedList") then Ok format.CompactedList else Err (Unsupported name))

abbrev pub format_of : Option Data → Result ResultFormat QueryError
format_of None = Ok format.List
format_of (Some d) = do
  name ← passed Base (as_text (codes "resultFormat") d)
  format_named name

-- `batchSize`: 1 at least, 20480 where it is absent
abbrev pub some_rows : ℕ → Result ℕ QueryError
some_rows n = if n == 0 then Err (Base (WrongKind (codes "batchSize"))) else Ok n

abbrev pub batch_size_of : Option Data → Result ℕ QueryError
batch_size_of None = Ok 20_480
batch_size_of (Some d) = do
  n ← as_whole (codes "batchSize") d
  some_rows n

-- `offset`: 0 where it is absent
abbrev pub offset_of : Option Data → Result ℕ QueryError
offset_of None = Ok 0
offset_of (Some d) = as_whole (codes "offset") d

abbrev pub scan_keys : List (List ℕ)
scan_keys = codes "queryType" ∷ codes "dataSource" ∷ codes "intervals" ∷ codes "granularity" ∷ codes "filter" ∷ codes "columns" ∷ codes "order" ∷ codes "resultFormat" ∷ codes "batchSize" ∷ codes "offset" ∷ codes "limit" ∷ codes "context" ∷ []

-- of type `scan`
unfoldable pub scan_of : Schema → Data → Members → Result Scan QueryError
scan_of schema d ms = do
  columns ← columns_of schema (field (codes "columns") d)
  order ← order_of (field (codes "order") d)
  result_format ← format_of (field (codes "resultFormat") d)
  batch_size ← batch_size_of (field (codes "batchSize") d)
  offset ← offset_of (field (codes "offset") d)
  limit ← limit_or_none (codes "limit") (field (codes "limit") d)
  context ← context_of (field (codes "context") d)
  unlisted ← no_unlisted scan_keys ms
  Ok (record { columns = columns; order = order; result_format = result_format; batch_size = batch_size; offset = offset; limit = limit })
