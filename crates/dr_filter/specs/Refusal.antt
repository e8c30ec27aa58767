-- The numbers, names and arguments of the refusals of a filter.
use Rattle.std.specs.Prelude.{ℕ, List, Bool, false, Option, Some, None, Result, codes}
use Rattle.dr_base.specs.declared.fault.Arg.{Arg}
use Rattle.dr_base.specs.declared.fault.Arg.TheVariants.{Name}
use Rattle.dr_base.specs.Reading.{GivesUnless}
use Rattle.dr_base.specs.Refusal as base
use Rattle.dr_time.specs.Refusal as time
use Rattle.dr_intervals.specs.declared.intervals_error.IntervalsError.{IntervalsError}
use Rattle.dr_intervals.specs.declared.intervals_error.IntervalsError.TheVariants as intervals
use Rattle.dr_filter.specs.declared.filter_error.FilterError.{FilterError}
use Rattle.dr_filter.specs.declared.filter_error.FilterError.TheVariants.{Base, Time, UnknownFilter, FilterOnMetric, TooDeep}

abbrev pub number_of : FilterError → ℕ
number_of (Base e) = base.number_of e
number_of (Time e) = time.number_of e
number_of (UnknownFilter name) = 60
number_of (FilterOnMetric name) = 61
number_of TooDeep = 62

abbrev pub name_of : FilterError → List ℕ
name_of (Base e) = base.name_of e
name_of (Time e) = time.name_of e
name_of (UnknownFilter name) = codes "UnknownFilter"
name_of (FilterOnMetric name) = codes "FilterOnMetric"
name_of TooDeep = codes "TooDeep"

-- the type, key or column that was refused
abbrev pub arg_of : FilterError → Option Arg
arg_of (Base e) = base.arg_of e
arg_of (Time e) = None
arg_of (UnknownFilter name) = Some (Name name)
arg_of (FilterOnMetric name) = Some (Name name)
arg_of TooDeep = None

-- memory ran out
abbrev pub is_memory : FilterError → Bool
is_memory (Base e) = base.is_memory e
is_memory (Time e) = false
is_memory (UnknownFilter name) = false
is_memory (FilterOnMetric name) = false
is_memory TooDeep = false

-- a refusal of intervals: what is not read there makes the filter an unknown one
abbrev pub of_intervals : IntervalsError → FilterError
of_intervals (intervals.Base e) = Base e
of_intervals (intervals.Time e) = Time e
of_intervals (intervals.Unread name) = UnknownFilter name

-- what a function returned, seen by view, is what the reading gives, unless memory ran out
abbrev pub Gives : {X Y : Type 0} → (X → Y) → Result X FilterError → Result Y FilterError → Type 0
Gives view result reading = GivesUnless is_memory view result reading
