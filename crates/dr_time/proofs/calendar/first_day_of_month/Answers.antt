-- The first of the month that jiff has is that of our calendar.
use Rattle.std.proofs.Common.{◌≡◌, ◌∙◌, ◌+◌, ◌/◌, ◌%◌, pos, to_z, of_z, w64, arith}
use mir.Syntax.{w8, w16}
use Rattle.std.proofs.lemmas.Int.{to_z_pos}
use Rattle.jiff_core.proofs.SignedLemmas.{signed_arith}
use Rattle.dr_time.proofs.CalendarLemmas.{first_day-10000, first_day-days_from_civil}
use Rattle.dr_time.proofs.calendar.first_day_of_month.Goals as goal

pub returns-then-month-ge-LAST_MONTH-clause-value : goal.returns-then-month-ge-LAST_MONTH-clause-value
returns-then-month-ge-LAST_MONTH-clause-value c = λ most. first_day-10000 c.args.month (omega arith)

pub returns-clause-value : goal.returns-clause-value
returns-clause-value c =
    let k = c.args.month in
    let date = c.date-first.result in
    let in_year : to_z w16 (c.args.month / 12) ≡ pos (c.args.month / 12) = to_z_pos w16 _ (omega arith) in
    let in_month : to_z w8 (c.args.month % 12 + 1) ≡ pos (c.args.month % 12 + 1) = to_z_pos w8 _ (omega arith) in
    let parts = rw (in_year, in_month) at c.date-first.ensures in
    let month_is : c.date-first.result.month ≡ c.args.month % 12 + 1 = omega (arith, signed_arith, parts.1) in
    let day_is : c.date-first.result.day ≡ 1 = omega (arith, signed_arith, parts.2) in
    let number = rw (c.to_plain.ensures, parts.0, month_is, day_is) at c.to_unix_epoch_day.ensures.value in
    let cast : to_z w64 (of_z w64 c.from.result) ≡ c.to_unix_epoch_day.result = omega (arith, signed_arith) in
    λ most. cast ∙ (number ∙ first_day-days_from_civil c.args.month)

-- no month begins before the year 0
pub returns-clause-low : goal.returns-clause-low
returns-clause-low c = omega (arith, signed_arith, returns-clause-value c (omega arith))
