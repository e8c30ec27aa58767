-- The answer to a query over rows, as JSON text (Apache Druid documentation, timeseries and groupBy queries; RFC 8259). The order
-- of the keys, the text `null` for an empty value and the bound on the groups are this project's own.
use Rattle.std.specs.Prelude.{ℕ, ℤ, nat_lt, List, [], ◌∷◌, length, map, codes, Result, Ok, Err, if◌then◌else◌}
use Rattle.serde_json.specs.Data.{Data, null, number, string, array, object, Members, member, no_members, put}
use Rattle.serde_json.specs.Find.{of_integer}
use Rattle.serde_json.specs.View.{items_of}
use Rattle.serde_json.specs.Written.{compact_text}
use Rattle.dr_base.specs.Reading.{◌>>=◌}
use Rattle.dr_base.specs.declared.row.Row.{Row}
use Rattle.dr_time.specs.Printed.{instant_text}
use Rattle.dr_ask.specs.declared.aggregation.Aggregation.{Aggregation}
use Rattle.dr_ask.specs.declared.dimension.Dimension.{Dimension}
use Rattle.dr_ask.specs.Asked.{Asked, AskedShape, timeseries, group_by, scan}
use Rattle.dr_answers.specs.declared.result_row.ResultRow.{ResultRow}
use Rattle.dr_answers.specs.declared.answer_error.AnswerError.{AnswerError}
use Rattle.dr_answers.specs.declared.answer_error.AnswerError.TheVariants.{ResultTooLarge}
use Rattle.dr_answers.specs.Given.{given_by}
use Rattle.dr_answers.specs.Groups.{groups, max_groups}

-- an object's members with some values put in, each under the name of its output: names stand in ascending byte order
abbrev pub with_values : Members → List Aggregation → List ℤ → Members
with_values members [] values = members
with_values members (a ∷ more) [] = members
with_values members (a ∷ more) (v ∷ values) = with_values (put a.name (number (of_integer v)) members) more values

-- the value of a dimension: an empty one is null
abbrev pub dimension_data : List ℕ → Data
dimension_data [] = null
dimension_data (c ∷ cs) = string (c ∷ cs)

abbrev pub with_dims : Members → List Dimension → List (List ℕ) → Members
with_dims members [] dims = members
with_dims members (d ∷ more) [] = members
with_dims members (d ∷ more) (v ∷ dims) = with_dims (put d.name (dimension_data v) members) more dims

-- `{"result":{..},"timestamp":".."}`, and `{"event":{..},"timestamp":"..","version":"v1"}`; a scan has no groups, and one of it
-- would be written as that of a timeseries
abbrev pub result_data : AskedShape → List Aggregation → ResultRow → Data
result_data (timeseries t) aggregations g = object (
    member (codes "result") (object (with_values no_members aggregations g.values))
    (member (codes "timestamp") (string (instant_text g.time)) no_members))
result_data (group_by asked) aggregations g = object (
    member (codes "event") (object (with_values (with_dims no_members asked.dimensions g.dims) aggregations g.values))
    (member (codes "timestamp") (string (instant_text g.time))
    (member (codes "version") (string (codes "v1")) no_members)))
result_data (scan s) aggregations g = object (
    member (codes "result") (object (with_values no_members aggregations g.values))
    (member (codes "timestamp") (string (instant_text g.time)) no_members))

-- a list of them, without spaces
abbrev pub text_of : Asked → List ResultRow → List ℕ
text_of q given = compact_text (array (items_of (map (result_data q.shape q.aggregations) given)))

-- the groups that are given, where there are not too many groups
abbrev pub given_of : Asked → List ResultRow → Result (List ResultRow) AnswerError
given_of q groups = if nat_lt max_groups (length groups) then Err ResultTooLarge else Ok (given_by q.shape groups)

-- the answer to a query over rows
unfoldable pub answer : Asked → List Row → Result (List ℕ) AnswerError
answer q rows = do
  given ← given_of q (groups q rows)
  Ok (text_of q given)
