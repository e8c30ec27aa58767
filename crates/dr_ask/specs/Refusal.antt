-- The numbers, names and arguments of the refusals of a query.
use Rattle.std.specs.Prelude.{ℕ, List, Bool, false, Option, Some, None, Result, codes}
use Rattle.dr_base.specs.declared.fault.Arg.{Arg}
use Rattle.dr_base.specs.declared.fault.Arg.TheVariants.{Name}
use Rattle.dr_base.specs.Reading.{GivesUnless}
use Rattle.dr_base.specs.Refusal as base
use Rattle.dr_time.specs.Refusal as time
use Rattle.dr_gran.specs.Refusal as gran
use Rattle.dr_filter.specs.Refusal as filter
use Rattle.dr_having.specs.Refusal as having
use Rattle.dr_order.specs.Refusal as order
use Rattle.dr_intervals.specs.declared.intervals_error.IntervalsError.{IntervalsError}
use Rattle.dr_intervals.specs.declared.intervals_error.IntervalsError.TheVariants as intervals
use Rattle.dr_ask.specs.declared.query_error.QueryError.{QueryError}
use Rattle.dr_ask.specs.declared.query_error.QueryError.TheVariants.{Base, Time, Gran, Filter, Having, Order, UnknownQueryType, WrongDataSource, DuplicateOutput, FieldIsDimension, DimensionIsMetric, Unsupported}

abbrev pub number_of : QueryError → ℕ
number_of (Base e) = base.number_of e
number_of (Time e) = time.number_of e
number_of (Gran e) = gran.number_of e
number_of (Filter e) = filter.number_of e
number_of (Having e) = having.number_of e
number_of (Order e) = order.number_of e
number_of (UnknownQueryType name) = 70
number_of (WrongDataSource name) = 71
number_of (DuplicateOutput name) = 72
number_of (FieldIsDimension name) = 74
number_of (DimensionIsMetric name) = 75
number_of (Unsupported name) = 76

abbrev pub name_of : QueryError → List ℕ
name_of (Base e) = base.name_of e
name_of (Time e) = time.name_of e
name_of (Gran e) = gran.name_of e
name_of (Filter e) = filter.name_of e
name_of (Having e) = having.name_of e
name_of (Order e) = order.name_of e
name_of (UnknownQueryType name) = codes "UnknownQueryType"
name_of (WrongDataSource name) = codes "WrongDataSource"
name_of (DuplicateOutput name) = codes "DuplicateOutput"
name_of (FieldIsDimension name) = codes "FieldIsDimension"
name_of (DimensionIsMetric name) = codes "DimensionIsMetric"
name_of (Unsupported name) = codes "Unsupported"

-- the type, field or name that was refused
abbrev pub arg_of : QueryError → Option Arg
arg_of (Base e) = base.arg_of e
arg_of (Time e) = None
arg_of (Gran e) = gran.arg_of e
arg_of (Filter e) = filter.arg_of e
arg_of (Having e) = having.arg_of e
arg_of (Order e) = order.arg_of e
arg_of (UnknownQueryType name) = Some (Name name)
arg_of (WrongDataSource name) = Some (Name name)
arg_of (DuplicateOutput name) = Some (Name name)
arg_of (FieldIsDimension name) = Some (Name name)
arg_of (DimensionIsMetric name) = Some (Name name)
arg_of (Unsupported name) = Some (Name name)

-- memory ran out
abbrev pub is_memory : QueryError → Bool
is_memory (Base e) = base.is_memory e
is_memory (Time e) = false
is_memory (Gran e) = gran.is_memory e
is_memory (Filter e) = filter.is_memory e
is_memory (Having e) = having.is_memory e
is_memory (Order e) = order.is_memory e
is_memory (UnknownQueryType name) = false
is_memory (WrongDataSource name) = false
is_memory (DuplicateOutput name) = false
is_memory (FieldIsDimension name) = false
is_memory (DimensionIsMetric name) = false
is_memory (Unsupported name) = false

-- a refusal of intervals: what is not read there is not supported
abbrev pub of_intervals : IntervalsError → QueryError
of_intervals (intervals.Base e) = Base e
of_intervals (intervals.Time e) = Time e
of_intervals (intervals.Unread name) = Unsupported name

-- what a function returned, seen by view, is what the reading gives, unless memory ran out
abbrev pub Gives : {X Y : Type 0} → (X → Y) → Result X QueryError → Result Y QueryError → Type 0
Gives view result reading = GivesUnless is_memory view result reading
