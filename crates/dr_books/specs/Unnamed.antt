-- The schema of a ledger for which none was picked.
use Rattle.std.specs.Prelude.{[], false}
use Rattle.dr_gran.specs.declared.gran.Gran.TheVariants.{Day}
use Rattle.dr_schema.specs.declared.schema_fields.SchemaFields.{SchemaFields}
use Rattle.dr_schema.specs.declared.time_format.TimeFormat.TheVariants.{Iso}

abbrev pub no_schema : SchemaFields
no_schema = record {
  data_source = [];
  time_column = [];
  time_format = Iso;
  dimensions = [];
  metrics = [];
  segment_granularity = Day;
  query_granularity = Day;
  rollup = false;
  limits = record { max_rows_in_memory = 0; max_retained = 0; max_commits = 0; max_image_bytes = 0 };
}
