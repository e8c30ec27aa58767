-- The names of the granularities (Apache Druid documentation, query granularities), which are read in any ASCII case.
use Rattle.std.specs.Prelude.{ℕ, List, [], ◌∷◌, Option, codes}
use Rattle.std.specs.List.{find}
use Rattle.std.specs.Str.{str_eq_ignore_ascii_case}
use Rattle.dr_gran.specs.declared.gran.Gran.{Gran}
use Rattle.dr_gran.specs.declared.gran.Gran.TheVariants.{AllTime, Millisecond, Second, Minute, FiveMinute, TenMinute, FifteenMinute, ThirtyMinute, Hour, SixHour, EightHour, Day, Week, Month, Quarter, Year}

abbrev pub name_of : Gran → List ℕ
name_of AllTime = codes "all"
name_of Millisecond = codes "none"
name_of Second = codes "second"
name_of Minute = codes "minute"
name_of FiveMinute = codes "five_minute"
name_of TenMinute = codes "ten_minute"
name_of FifteenMinute = codes "fifteen_minute"
name_of ThirtyMinute = codes "thirty_minute"
name_of Hour = codes "hour"
name_of SixHour = codes "six_hour"
name_of EightHour = codes "eight_hour"
name_of Day = codes "day"
name_of Week = codes "week"
name_of Month = codes "month"
name_of Quarter = codes "quarter"
name_of Year = codes "year"

abbrev pub every_gran : List Gran
every_gran = AllTime ∷ Millisecond ∷ Second ∷ Minute ∷ FiveMinute ∷ TenMinute ∷ FifteenMinute ∷ ThirtyMinute ∷ Hour ∷ SixHour ∷ EightHour ∷ Day ∷ Week ∷ Month ∷ Quarter ∷ Year ∷ []

-- the one of some granularities that has this name, in any ASCII case
abbrev pub named_among : List Gran → List ℕ → Option Gran
named_among grans name = find (λ g. str_eq_ignore_ascii_case name (name_of g)) grans
