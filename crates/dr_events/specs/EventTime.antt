-- The time of an event (Apache Druid documentation, ingestion spec, `timestampSpec`; which texts are whole numbers is this
-- project's own).
use Rattle.std.specs.Prelude.{ℕ, nat_le, ◌==◌, length, List, [], ◌∷◌, Bool, ℤ, pos, ◌*ℤ◌, ◌&&◌, Option, Some, None, option_map, option_and_then, if◌then◌else◌, Result, Err}
use Rattle.std.specs.Result.{result_ok}
use Rattle.std.specs.List.{list_all}
use Rattle.std.specs.Char.{is_ascii_digit}
use Rattle.serde_json.specs.Data.{Data, null, boolean, number, string, array, object}
use Rattle.serde_json.specs.Find.{as_integer}
use Rattle.dr_time.specs.Instant.{is_instant, instant_of}
use Rattle.dr_schema.specs.declared.time_format.TimeFormat.{TimeFormat}
use Rattle.dr_schema.specs.declared.time_format.TimeFormat.TheVariants.{Iso, Millis, Posix, Auto}
use Rattle.dr_events.specs.declared.unparseable.Unparseable.{Unparseable}
use Rattle.dr_events.specs.declared.unparseable.Unparseable.TheVariants.{NoTimestamp, BadTimestamp}
use Rattle.dr_events.specs.Columns.{or_refused}
use Rattle.dr_events.specs.WholeNumber.{minus, plain_number}

-- a text of ISO 8601
abbrev pub iso_time : Data → Option ℤ
iso_time null = None
iso_time (boolean b) = None
iso_time (number n) = None
iso_time (string s) = result_ok (instant_of s)
iso_time (array ds) = None
iso_time (object ms) = None

-- a whole number, or a text of an optional `-` and digits
abbrev pub whole_time : Data → Option ℤ
whole_time null = None
whole_time (boolean b) = None
whole_time (number n) = as_integer n
whole_time (string s) = plain_number s
whole_time (array ds) = None
whole_time (object ms) = None

-- what follows a `-`
abbrev pub behind_minus : List ℕ → List ℕ
behind_minus [] = []
behind_minus (c ∷ cs) = if c == minus then cs else c ∷ cs

abbrev pub are_1_to_19_digits : List ℕ → Bool
are_1_to_19_digits s = nat_le 1 (length s) && (nat_le (length s) 19 && list_all is_ascii_digit s)

-- a text of an optional `-` and 1 to 19 digits is that number, and any other text one of ISO 8601
abbrev pub auto_text : List ℕ → Option ℤ
auto_text s = if are_1_to_19_digits (behind_minus s) then plain_number s else result_ok (instant_of s)

-- a whole number, or a text
abbrev pub auto_time : Data → Option ℤ
auto_time null = None
auto_time (boolean b) = None
auto_time (number n) = as_integer n
auto_time (string s) = auto_text s
auto_time (array ds) = None
auto_time (object ms) = None

abbrev pub of_seconds : ℤ → ℤ
of_seconds z = z *ℤ pos 1000

-- the milliseconds since the epoch that a value stands for; a number may be too great for any time
abbrev pub time_of : TimeFormat → Data → Option ℤ
time_of Iso d = iso_time d
time_of Millis d = whole_time d
time_of Posix d = option_map of_seconds (whole_time d)
time_of Auto d = auto_time d

-- an event has a time in the years 1 to 9999
abbrev pub in_years : ℤ → Option ℤ
in_years t = if is_instant t then Some t else None

-- the time of an event by the value of its time column, which may be absent
abbrev pub event_time : TimeFormat → Option Data → Result ℤ Unparseable
event_time format None = Err NoTimestamp
event_time format (Some d) = or_refused BadTimestamp (option_and_then in_years (time_of format d))
