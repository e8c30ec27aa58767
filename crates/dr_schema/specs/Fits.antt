-- What holds of each event of a data source.
use Rattle.std.specs.Prelude.{◌≡◌, length, All, FitsSigned}
use Rattle.std.specs.Int.{w64}
use Rattle.dr_base.specs.declared.event.Event.{Event}
use Rattle.dr_schema.specs.declared.schema_fields.SchemaFields.{SchemaFields}
use Rattle.dr_time.specs.Instant.{IsInstant}

-- a value for each dimension, an input of 64 bits with a sign for each metric, and a time in the years 1 to 9999
pub record FitsSchema (s : SchemaFields) (e : Event) : Type 0 where
  pub dims : length e.dims ≡ length s.dimensions
  pub inputs : length e.inputs ≡ length s.metrics
  pub in_range : All (FitsSigned w64) e.inputs
  pub time : IsInstant e.time
