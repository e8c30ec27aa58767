-- Intervals of time (ISO 8601, `start/end`). They are half open: the start is inside, and the end isn't.
use Rattle.std.specs.Prelude.{ℕ, ◌==◌, nat_lt, Bool, ◌&&◌, if◌then◌else◌, List, length, ℤ, int_le, int_lt, Option, Some, None, Result, Ok, Err, bytes_eq}
use Rattle.std.specs.Int.{int_max}
use Rattle.std.specs.List.{position_or_len, before_first, after_first}
use Rattle.dr_base.specs.Reading.{◌>>=◌}
use Rattle.dr_time.specs.declared.interval.Interval.{Interval}
use Rattle.dr_time.specs.declared.time_error.TimeError.{TimeError}
use Rattle.dr_time.specs.declared.time_error.TimeError.TheVariants.{BadInstant, OutOfRange, BadInterval, EndBeforeStart}
use Rattle.dr_time.specs.Eternity.{eternity, eternity_text}
use Rattle.dr_time.specs.Instant.{instant_of}

-- the interval holds this time
abbrev pub holds_time : Interval → ℤ → Bool
holds_time interval t = int_le interval.start t && int_lt t interval.end

-- the interval holds no time
abbrev pub is_empty : Interval → Bool
is_empty interval = int_le interval.end interval.start

-- the start of an interval that isn't empty
abbrev pub first_time : Interval → Option ℤ
first_time interval = if is_empty interval then None else Some interval.start

-- the first time of an interval that isn't before this one
abbrev pub first_time_from : ℤ → Interval → Option ℤ
first_time_from from interval =
    if int_lt (int_max from interval.start) interval.end then Some (int_max from interval.start) else None

abbrev pub is_slash : ℕ → Bool
is_slash c = c == 47

-- the texts before and behind the first `/`
abbrev pub parts_of : List ℕ → Result (List ℕ × List ℕ) TimeError
parts_of text =
    if nat_lt (position_or_len is_slash text) (length text) then Ok (before_first is_slash text, after_first is_slash text)
    else Err BadInterval

-- a part that is no instant makes the whole text no interval; one out of range is refused as such
abbrev pub as_part : Result ℤ TimeError → Result ℤ TimeError
as_part (Ok t) = Ok t
as_part (Err BadInstant) = Err BadInterval
as_part (Err OutOfRange) = Err OutOfRange
as_part (Err BadInterval) = Err BadInterval
as_part (Err EndBeforeStart) = Err EndBeforeStart

-- an interval may be empty, and ends not before it starts
abbrev pub interval_from : ℤ → ℤ → Result Interval TimeError
interval_from start end = if int_lt end start then Err EndBeforeStart else Ok (record { start = start; end = end })

-- the interval between two instants
unfoldable pub between_instants : List ℕ → Result Interval TimeError
between_instants text = do
  parts ← parts_of text
  start ← as_part (instant_of parts.0)
  end ← as_part (instant_of parts.1)
  interval_from start end

-- the interval that a text names: eternity by its own text alone
unfoldable pub interval_of : List ℕ → Result Interval TimeError
interval_of text = if bytes_eq text eternity_text then Ok eternity else between_instants text
