-- Bytes as JSON (RFC 8259), which is text in UTF-8.
use Rattle.std.specs.Prelude.{ℕ, List, Option, Some, None, Result, Ok, Err, if◌then◌else◌}
use Rattle.std.specs.Str.{is_utf8}
use Rattle.serde_json.specs.Data.{Data}
use Rattle.serde_json.specs.Read.{read}
use Rattle.dr_base.specs.declared.base_error.BaseError.{BaseError}
use Rattle.dr_base.specs.declared.base_error.BaseError.TheVariants.{NotJson}

abbrev pub or_not_json : Option Data → Result Data BaseError
or_not_json None = Err NotJson
or_not_json (Some d) = Ok d

-- the value that the bytes spell
unfoldable pub json_of : List ℕ → Result Data BaseError
json_of bytes = if is_utf8 bytes then or_not_json (read bytes) else Err NotJson
