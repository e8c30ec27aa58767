-- The condition that a JSON value spells for a schema, or its first refusal (Apache Druid documentation, query filters).
use Rattle.std.specs.Prelude.{ℕ, zero, suc, List, [], ◌∷◌, Result, Ok, Err, if◌then◌else◌, bytes_eq, codes}
use Rattle.serde_json.specs.Data.{Data, Members}
use Rattle.dr_base.specs.Each.{each}
use Rattle.dr_base.specs.Fields.{field, required, as_object, text_field, list_field}
use Rattle.dr_base.specs.Reading.{◌>>=◌, passed}
use Rattle.dr_intervals.specs.IntervalsOf.{intervals_of}
use Rattle.dr_schema.specs.declared.schema.Schema.{Schema}
use Rattle.dr_filter.specs.declared.filter_error.FilterError.{FilterError}
use Rattle.dr_filter.specs.declared.filter_error.FilterError.TheVariants.{Base, UnknownFilter, TooDeep}
use Rattle.dr_filter.specs.Condition.{Condition, dimension, interval, every, some, opposite, conditions_of}
use Rattle.dr_filter.specs.Fields.{no_unlisted}
use Rattle.dr_filter.specs.Refusal.{of_intervals}
use Rattle.dr_filter.specs.TestOf.{test_by}

-- how a filter is read that stands in a field of that name
abbrev pub Inner : Type 0
Inner = List ℕ → Data → Result Condition FilterError

-- ---- filters without filters inside

-- an interval is one of the time
abbrev pub only_time : List ℕ → Result (Unit {0}) FilterError
only_time name = if bytes_eq name (codes "__time") then Ok tt else Err (UnknownFilter (codes "interval"))

-- `interval`
unfoldable pub interval_filter_of : Data → Members → Result Condition FilterError
interval_filter_of d ms = do
  name ← passed Base (text_field (codes "dimension") d)
  time ← only_time name
  intervals ← passed of_intervals (intervals_of d)
  unlisted ← no_unlisted (codes "type" ∷ codes "dimension" ∷ codes "intervals" ∷ []) ms
  Ok (interval intervals)

abbrev pub dimension_filter_of : List ℕ → Schema → Data → Members → Result Condition FilterError
dimension_filter_of type schema d ms = do
  test ← test_by type schema d ms
  Ok (dimension test)

abbrev pub simple_by : List ℕ → Schema → Data → Members → Result Condition FilterError
simple_by type schema d ms =
    if bytes_eq type (codes "interval") then interval_filter_of d ms else dimension_filter_of type schema d ms

-- ---- filters of filters

-- `fields`
unfoldable pub fields_of : Inner → Data → Members → Result (List Condition) FilterError
fields_of inner d ms = do
  items ← passed Base (list_field (codes "fields") d)
  filters ← each (inner (codes "fields")) items
  unlisted ← no_unlisted (codes "type" ∷ codes "fields" ∷ []) ms
  Ok filters

-- `field`
unfoldable pub field_of : Inner → Data → Members → Result Condition FilterError
field_of inner d ms = do
  found ← passed Base (required (codes "field") (field (codes "field") d))
  filter ← inner (codes "field") found
  unlisted ← no_unlisted (codes "type" ∷ codes "field" ∷ []) ms
  Ok filter

abbrev pub and_of : Inner → Data → Members → Result Condition FilterError
and_of inner d ms = do
  filters ← fields_of inner d ms
  Ok (every (conditions_of filters))

abbrev pub or_of : Inner → Data → Members → Result Condition FilterError
or_of inner d ms = do
  filters ← fields_of inner d ms
  Ok (some (conditions_of filters))

abbrev pub not_of : Inner → Data → Members → Result Condition FilterError
not_of inner d ms = do
  filter ← field_of inner d ms
  Ok (opposite filter)

abbrev pub by_type : List ℕ → Inner → Schema → Data → Members → Result Condition FilterError
by_type type inner schema d ms =
    if bytes_eq type (codes "and") then and_of inner d ms
    else (if bytes_eq type (codes "or") then or_of inner d ms
    else (if bytes_eq type (codes "not") then not_of inner d ms
    else simple_by type schema d ms))

-- a filter, where it is known how those inside are read
unfoldable pub level_of : Inner → Schema → List ℕ → Data → Result Condition FilterError
level_of inner schema name d = do
  members ← passed Base (as_object name d)
  type ← passed Base (text_field (codes "type") d)
  by_type type inner schema d members

-- a filter at a level that is too deep, whatever it is
abbrev pub too_deep_of : List ℕ → Data → Result Condition FilterError
too_deep_of name d = do
  members ← passed Base (as_object name d)
  Err TooDeep

-- a filter in which so many levels may nest, itself among them
unfoldable pub filter_at : ℕ → Schema → Inner
filter_at zero schema name d = too_deep_of name d
filter_at (suc inside) schema name d = level_of (filter_at inside schema) schema name d

-- up to 64 levels
unfoldable pub filter_of : Schema → Data → Result Condition FilterError
filter_of schema d = filter_at 64 schema (codes "filter") d
