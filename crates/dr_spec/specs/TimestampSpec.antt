-- The section `timestampSpec` (Apache Druid documentation, ingestion spec).
use Rattle.std.specs.Prelude.{ℕ, List, [], ◌∷◌, bytes_eq, codes, Result, Ok, Err, if◌then◌else◌}
use Rattle.serde_json.specs.Data.{Data}
use Rattle.dr_base.specs.Reading.{◌>>=◌, passed}
use Rattle.dr_spec.specs.declared.spec_error.SpecError.{SpecError}
use Rattle.dr_spec.specs.declared.spec_error.SpecError.TheVariants.{Base, Unsupported}
use Rattle.dr_schema.specs.declared.time_format.TimeFormat.{TimeFormat}
use Rattle.dr_schema.specs.declared.time_format.TimeFormat.TheVariants.{Iso, Millis, Posix, Auto}
use Rattle.dr_spec.specs.declared.timestamp_spec.TimestampSpec.{TimestampSpec}
use Rattle.dr_spec.specs.Sections.{section, text_or}

-- the format of a name
unfoldable pub format_of : List ℕ → Result TimeFormat SpecError
format_of name =
    if bytes_eq name (codes "iso") then Ok Iso else (if bytes_eq name (codes "millis") then Ok Millis else (if bytes_eq name (codes "posix") then Ok Posix else (if bytes_eq name (codes "auto") then Ok Auto else Err (Unsupported name))))

unfoldable pub timestamp_of : Data → Result TimestampSpec SpecError
timestamp_of d = do
  s ← passed Base (section (codes "timestampSpec") d)
  column ← passed Base (text_or (codes "column") (codes "timestamp") s)
  name ← passed Base (text_or (codes "format") (codes "auto") s)
  format ← format_of name
  Ok (record { column = column; format = format })

-- its keys
abbrev pub timestamp_keys : List (List ℕ)
timestamp_keys = codes "column" ∷ codes "format" ∷ []
