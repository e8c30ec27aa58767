-- The intervals of a query or of a filter (Apache Druid documentation, native queries, intervals): one text, a list of texts,
-- or an object of type `intervals` with such a list.
use Rattle.std.specs.Prelude.{ℕ, List, [], ◌∷◌, codes, bytes_eq, Option, Some, None, Result, Ok, Err, if◌then◌else◌}
use Rattle.serde_json.specs.Data.{Data, null, boolean, number, string, array, object, no_items, item, Members}
use Rattle.dr_base.specs.declared.base_error.BaseError.TheVariants.{WrongKind}
use Rattle.dr_base.specs.Fields.{field, required, as_text, text_field, list_field}
use Rattle.dr_base.specs.Reading.{◌>>=◌, passed}
use Rattle.dr_base.specs.Each.{each}
use Rattle.dr_base.specs.Unlisted.{unlisted}
use Rattle.dr_time.specs.declared.interval.Interval.{Interval}
use Rattle.dr_time.specs.Interval.{interval_of}
use Rattle.dr_intervals.specs.declared.intervals_error.IntervalsError.{IntervalsError}
use Rattle.dr_intervals.specs.declared.intervals_error.IntervalsError.TheVariants.{Base, Time, Unread}

-- a member of the list
unfoldable pub interval_in : Data → Result Interval IntervalsError
interval_in d = do
  text ← passed Base (as_text (codes "intervals") d)
  passed Time (interval_of text)

-- the one type of an object
abbrev pub only_intervals : List ℕ → Result (Unit {0}) IntervalsError
only_intervals type = if bytes_eq type (codes "intervals") then Ok tt else Err (Unread type)

abbrev pub none_left : Option (List ℕ) → Result (Unit {0}) IntervalsError
none_left None = Ok tt
none_left (Some key) = Err (Unread key)

-- no key asks for something beside the listed ones
abbrev pub no_unlisted : List (List ℕ) → Members → Result (Unit {0}) IntervalsError
no_unlisted listed ms = none_left (unlisted listed ms)

-- an object
unfoldable pub object_of : Data → Members → Result (List Interval) IntervalsError
object_of d ms = do
  type ← passed Base (text_field (codes "type") d)
  read ← only_intervals type
  items ← passed Base (list_field (codes "intervals") d)
  intervals ← each interval_in items
  unlisted ← no_unlisted (codes "type" ∷ codes "intervals" ∷ []) ms
  Ok intervals

abbrev pub intervals_in : Data → Result (List Interval) IntervalsError
intervals_in null = Err (Base (WrongKind (codes "intervals")))
intervals_in (boolean b) = Err (Base (WrongKind (codes "intervals")))
intervals_in (number n) = Err (Base (WrongKind (codes "intervals")))
intervals_in (string s) = each interval_in (item (string s) no_items)
intervals_in (array ds) = each interval_in ds
intervals_in (object ms) = object_of (object ms) ms

-- `intervals`: a text counts as the list of it; the list may be empty
unfoldable pub intervals_of : Data → Result (List Interval) IntervalsError
intervals_of d = do
  found ← passed Base (required (codes "intervals") (field (codes "intervals") d))
  intervals_in found
