-- Fields that the parts of a query share (Apache Druid documentation, native queries).
use Rattle.std.specs.Prelude.{ℕ, ◌==◌, Bool, false, List, Option, Some, None, Result, Ok, Err, if◌then◌else◌, bytes_eq}
use Rattle.serde_json.specs.Data.{Data, null, boolean, number, string, array, object, Members}
use Rattle.serde_json.specs.Find.{as_u64}
use Rattle.dr_base.specs.declared.base_error.BaseError.TheVariants.{WrongKind}
use Rattle.dr_base.specs.Fields.{as_bool}
use Rattle.dr_base.specs.Reading.{passed}
use Rattle.dr_base.specs.Unlisted.{unlisted}
use Rattle.dr_ask.specs.declared.query_error.QueryError.{QueryError}
use Rattle.dr_ask.specs.declared.query_error.QueryError.TheVariants.{Base, Unsupported}

-- a truth value, false where it is absent
abbrev pub truth_or_false : List ℕ → Option Data → Result Bool QueryError
truth_or_false name None = Ok false
truth_or_false name (Some d) = passed Base (as_bool name d)

-- a limit of 0 is none
abbrev pub some_limit : ℕ → Option ℕ
some_limit n = if n == 0 then None else Some n

abbrev pub whole_limit : List ℕ → Option ℕ → Result (Option ℕ) QueryError
whole_limit name None = Err (Base (WrongKind name))
whole_limit name (Some n) = Ok (some_limit n)

-- a whole number from 0 to 2^64 - 1
abbrev pub as_limit : List ℕ → Data → Result (Option ℕ) QueryError
as_limit name null = Err (Base (WrongKind name))
as_limit name (boolean b) = Err (Base (WrongKind name))
as_limit name (number n) = whole_limit name (as_u64 n)
as_limit name (string s) = Err (Base (WrongKind name))
as_limit name (array ds) = Err (Base (WrongKind name))
as_limit name (object ms) = Err (Base (WrongKind name))

abbrev pub limit_or_none : List ℕ → Option Data → Result (Option ℕ) QueryError
limit_or_none name None = Ok None
limit_or_none name (Some d) = as_limit name d

abbrev pub only_whole : List ℕ → Option ℕ → Result ℕ QueryError
only_whole name None = Err (Base (WrongKind name))
only_whole name (Some n) = Ok n

-- a whole number from 0 to 2^64 - 1, where each counts
abbrev pub as_whole : List ℕ → Data → Result ℕ QueryError
as_whole name null = Err (Base (WrongKind name))
as_whole name (boolean b) = Err (Base (WrongKind name))
as_whole name (number n) = only_whole name (as_u64 n)
as_whole name (string s) = Err (Base (WrongKind name))
as_whole name (array ds) = Err (Base (WrongKind name))
as_whole name (object ms) = Err (Base (WrongKind name))

-- the one text that is read
abbrev pub only_text : List ℕ → List ℕ → Result (Unit {0}) QueryError
only_text only text = if bytes_eq text only then Ok tt else Err (Unsupported text)

abbrev pub none_left : Option (List ℕ) → Result (Unit {0}) QueryError
none_left None = Ok tt
none_left (Some key) = Err (Unsupported key)

-- no key asks for something beside the listed ones
abbrev pub no_unlisted : List (List ℕ) → Members → Result (Unit {0}) QueryError
no_unlisted listed ms = none_left (unlisted listed ms)
