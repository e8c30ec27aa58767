-- The `limitSpec` of a groupBy over its outputs, or its first refusal (Apache Druid documentation, groupBy queries: limitSpec).
use Rattle.std.specs.Prelude.{ℕ, ◌==◌, List, [], ◌∷◌, Option, Some, None, Result, Ok, Err, if◌then◌else◌, bytes_eq, codes}
use Rattle.serde_json.specs.Data.{Data, Members}
use Rattle.dr_base.specs.Fields.{field, as_text, as_object}
use Rattle.dr_base.specs.Reading.{◌>>=◌, passed}
use Rattle.dr_order.specs.declared.limit_spec.LimitSpec.{LimitSpec}
use Rattle.dr_order.specs.declared.order_error.OrderError.{OrderError}
use Rattle.dr_order.specs.declared.order_error.OrderError.TheVariants.{Base, Unsupported}
use Rattle.dr_order.specs.ColumnOf.{columns_of}
use Rattle.dr_order.specs.Fields.{count_or_none, no_unlisted}

-- no order, and no limit
abbrev pub no_limit : LimitSpec
no_limit = record { columns = []; offset = 0; limit = None }

-- `type`: `default` where it is absent
abbrev pub type_of : Option Data → Result (List ℕ) OrderError
type_of None = Ok (codes "default")
type_of (Some d) = passed Base (as_text (codes "type") d)

-- a limit of 0 is none
abbrev pub limit_of : ℕ → Option ℕ
limit_of n = if n == 0 then None else Some n

-- of type `default`
unfoldable pub default_of : (dimensions aggregations : List (List ℕ)) → Data → Members → Result LimitSpec OrderError
default_of dimensions aggregations d ms = do
  limit ← passed Base (count_or_none (codes "limit") (field (codes "limit") d))
  offset ← passed Base (count_or_none (codes "offset") (field (codes "offset") d))
  columns ← columns_of dimensions aggregations (field (codes "columns") d)
  unlisted ← no_unlisted (codes "type" ∷ codes "limit" ∷ codes "offset" ∷ codes "columns" ∷ []) ms
  Ok (record { columns = columns; offset = offset; limit = limit_of limit })

-- of type `NoopLimitSpec`
abbrev pub noop_of : Members → Result LimitSpec OrderError
noop_of ms = do
  unlisted ← no_unlisted (codes "type" ∷ []) ms
  Ok no_limit

abbrev pub by_type : List ℕ → (dimensions aggregations : List (List ℕ)) → Data → Members → Result LimitSpec OrderError
by_type type dimensions aggregations d ms =
    if bytes_eq type (codes "NoopLimitSpec") then noop_of ms
    else (if bytes_eq type (codes "default") then default_of dimensions aggregations d ms else Err (Unsupported type))

unfoldable pub limit_spec_in : (dimensions aggregations : List (List ℕ)) → Data → Result LimitSpec OrderError
limit_spec_in dimensions aggregations d = do
  members ← passed Base (as_object (codes "limitSpec") d)
  type ← type_of (field (codes "type") d)
  by_type type dimensions aggregations d members

-- `limitSpec`
abbrev pub limit_spec_of : (dimensions aggregations : List (List ℕ)) → Option Data → Result LimitSpec OrderError
limit_spec_of dimensions aggregations None = Ok no_limit
limit_spec_of dimensions aggregations (Some d) = limit_spec_in dimensions aggregations d
