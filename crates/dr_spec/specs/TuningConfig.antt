-- The section `tuningConfig` (Apache Druid documentation, ingestion spec): the limits, of which all but the first are this
-- project's own.
use Rattle.std.specs.Prelude.{ℕ, ℤ, pos, negsuc, List, nat_le, ◌&&◌, codes, Option, Some, None, Result, Ok, Err, if◌then◌else◌}
use Rattle.serde_json.specs.Data.{Data}
use Rattle.dr_base.specs.declared.base_error.BaseError.{BaseError}
use Rattle.dr_base.specs.declared.base_error.BaseError.TheVariants.{WrongKind}
use Rattle.dr_base.specs.Reading.{◌>>=◌}
use Rattle.dr_base.specs.Fields.{as_int}
use Rattle.dr_schema.specs.declared.limits.Limits.{Limits}
use Rattle.dr_spec.specs.Sections.{section, field_in}

-- a number from 1 up to the greatest
abbrev pub in_range : List ℕ → ℕ → ℤ → Result ℕ BaseError
in_range name greatest (pos n) = if nat_le 1 n && nat_le n greatest then Ok n else Err (WrongKind name)
in_range name greatest (negsuc n) = Err (WrongKind name)

abbrev pub limit_in : List ℕ → ℕ → ℕ → Option Data → Result ℕ BaseError
limit_in name default greatest None = Ok default
limit_in name default greatest (Some d) = do
  n ← as_int name d
  in_range name greatest n

-- a limit, from 1 up to the greatest, or its default
unfoldable pub limit : List ℕ → ℕ → ℕ → Option Data → Result ℕ BaseError
limit name default greatest s = limit_in name default greatest (field_in name s)

unfoldable pub limits_of : Data → Result Limits BaseError
limits_of d = do
  s ← section (codes "tuningConfig") d
  rows ← limit (codes "maxRowsInMemory") 1000 1048576 s
  retained ← limit (codes "maxRetained") 1048576 1048576 s
  commits ← limit (codes "maxCommits") 4294967295 4294967295 s
  bytes ← limit (codes "maxImageBytes") 1073741824 1073741824 s
  Ok (record { max_rows_in_memory = rows; max_retained = retained; max_commits = commits; max_image_bytes = bytes })
