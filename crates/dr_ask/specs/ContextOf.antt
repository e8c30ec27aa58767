-- The context of a query (Apache Druid documentation, native queries, query context).
use Rattle.std.specs.Prelude.{ℕ, Bool, true, false, not, List, Option, Some, None, Result, Ok, Err, if◌then◌else◌, bytes_eq, codes}
use Rattle.serde_json.specs.Data.{Data, null, boolean, number, string, array, object}
use Rattle.dr_base.specs.declared.base_error.BaseError.TheVariants.{WrongKind}
use Rattle.dr_base.specs.Fields.{field, as_object}
use Rattle.dr_base.specs.Reading.{◌>>=◌, passed}
use Rattle.dr_ask.specs.declared.query_error.QueryError.{QueryError}
use Rattle.dr_ask.specs.declared.query_error.QueryError.TheVariants.{Base, Unsupported}

abbrev pub skip_named : List ℕ → Result Bool QueryError
skip_named text =
    if bytes_eq text (codes "true") then Ok true
    else (if bytes_eq text (codes "false") then Ok false else Err (Base (WrongKind (codes "skipEmptyBuckets"))))

-- true, false, or one of these texts
abbrev pub skip_in : Data → Result Bool QueryError
skip_in null = Err (Base (WrongKind (codes "skipEmptyBuckets")))
skip_in (boolean b) = Ok b
skip_in (number n) = Err (Base (WrongKind (codes "skipEmptyBuckets")))
skip_in (string s) = skip_named s
skip_in (array ds) = Err (Base (WrongKind (codes "skipEmptyBuckets")))
skip_in (object ms) = Err (Base (WrongKind (codes "skipEmptyBuckets")))

abbrev pub skip_of : Option Data → Result Bool QueryError
skip_of None = Ok false
skip_of (Some d) = skip_in d

-- null or false
abbrev pub is_off : Data → Bool
is_off null = true
is_off (boolean b) = not b
is_off (number n) = false
is_off (string s) = false
is_off (array ds) = false
is_off (object ms) = false

abbrev pub only_false : List ℕ → Data → Result (Unit {0}) QueryError
only_false name d = if is_off d then Ok tt else Err (Unsupported name)

-- what isn't read may be asked for by nobody
abbrev pub not_asked : List ℕ → Option Data → Result (Unit {0}) QueryError
not_asked name None = Ok tt
not_asked name (Some d) = only_false name d

unfoldable pub context_in : Data → Result Bool QueryError
context_in d = do
  members ← passed Base (as_object (codes "context") d)
  skips ← skip_of (field (codes "skipEmptyBuckets") d)
  totals ← not_asked (codes "grandTotal") (field (codes "grandTotal") d)
  sorts ← not_asked (codes "sortByDimsFirst") (field (codes "sortByDimsFirst") d)
  Ok skips

-- `context`: whether empty buckets are left out
abbrev pub context_of : Option Data → Result Bool QueryError
context_of None = Ok false
context_of (Some d) = context_in d
