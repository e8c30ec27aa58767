-- What holds of each schema (Apache Druid documentation, ingestion spec; the limits are this project's own).
use Rattle.std.specs.Prelude.{◌≡◌, ◌≢◌, ◌≤◌, ℕ, List, length, codes, All, AllPairs, Bool, true, false, is_none}
use Rattle.dr_agg.specs.declared.kind.Kind.{Kind}
use Rattle.dr_agg.specs.declared.kind.Kind.TheVariants.{Count, LongSum, LongMin, LongMax}
use Rattle.dr_gran.specs.declared.gran.Gran.{Gran}
use Rattle.dr_gran.specs.declared.gran.Gran.TheVariants.{AllTime, Millisecond}
use Rattle.dr_gran.specs.Step.{is_all}
use Rattle.dr_gran.specs.Nesting.{nests}
use Rattle.dr_schema.specs.declared.limits.Limits.{Limits}
use Rattle.dr_schema.specs.declared.metric.Metric.{Metric}
use Rattle.dr_schema.specs.declared.schema_fields.SchemaFields.{SchemaFields}
use Rattle.dr_schema.specs.Columns.{column_names}

-- no name stands twice, and none is that of the time
pub record AreDistinct (names : List (List ℕ)) : Type 0 where
  pub apart : AllPairs (λ a b. a ≢ b) names
  pub not_time : All (λ name. name ≢ codes "__time") names

abbrev pub is_count : Kind → Bool
is_count Count = true
is_count LongSum = false
is_count LongMin = false
is_count LongMax = false

-- a count reads no field, and each other metric reads one
abbrev pub HasItsField : Metric → Type 0
HasItsField m = is_none m.field ≡ is_count m.kind

-- a chunk is as long as a second up to a year
abbrev pub is_chunk_length : Gran → Bool
is_chunk_length AllTime = false
is_chunk_length Millisecond = false
is_chunk_length _ = true

-- each limit lies in its range
pub record AreInRange (l : Limits) : Type 0 where
  pub some_rows : 1 ≤ l.max_rows_in_memory
  pub few_rows : l.max_rows_in_memory ≤ 1048576
  pub some_retained : 1 ≤ l.max_retained
  pub few_retained : l.max_retained ≤ 1048576
  pub some_commits : 1 ≤ l.max_commits
  pub few_commits : l.max_commits ≤ 4294967295
  pub some_bytes : 1 ≤ l.max_image_bytes
  pub few_bytes : l.max_image_bytes ≤ 1073741824

-- the columns are distinct and not too many, each metric but a count reads a field, times are truncated within their chunk,
-- and the limits are in their ranges
pub record IsWellFormed (s : SchemaFields) : Type 0 where
  pub distinct : AreDistinct (column_names s.dimensions s.metrics)
  pub some_dimension : 1 ≤ length s.dimensions
  pub few_dimensions : length s.dimensions ≤ 64
  pub few_metrics : length s.metrics ≤ 64
  pub fields : All HasItsField s.metrics
  pub segment_kind : is_all s.segment_granularity ≡ false
  pub query_kind : is_all s.query_granularity ≡ false
  pub chunk_length : is_chunk_length s.segment_granularity ≡ true
  pub nests_in : nests s.query_granularity s.segment_granularity ≡ true
  pub limits : AreInRange s.limits
