-- The parts of the date that jiff has for this day number are those of our calendar.
use Rattle.std.proofs.Common.{FitsSigned, w64}
use Rattle.std.proofs.lemmas.Int.{to_z-of_z}
use Rattle.dr_time.proofs.CalendarLemmas.{date_parts-since}
use Rattle.dr_time.proofs.calendar.date_of_day.Goals as goal

pub returns : goal.returns
returns c =
    let fits : FitsSigned w64 c.args.day = c.ranges.day in
    let number = simp to_z-of_z at (rw c.unwrap.ensures at c.from_unix_epoch_day.ensures.value) in
    let parts = rw (← c.from_plain.ensures) at (date_parts-since c.unwrap.result c.args.day c.requires.low number) in
    record { year = parts.0; month = parts.1; day = parts.2 }
