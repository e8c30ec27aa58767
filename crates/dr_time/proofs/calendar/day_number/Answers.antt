-- The date that jiff has from these parts has the day number of our calendar.
use Rattle.std.proofs.Common.{◌≡◌, ◌∙◌, refl, arith, pos, to_z, of_z, w64}
use mir.Syntax.{w8, w16}
use Rattle.std.proofs.lemmas.Int.{to_z_pos}
use Rattle.jiff_core.proofs.SignedLemmas.{signed_arith}
use Rattle.dr_time.proofs.CalendarLemmas.{day_of-IsDate}
use Rattle.dr_time.proofs.calendar.day_number.Goals as goal

pub returns-in-Ok-clause-value : goal.returns-in-Ok-clause-value
returns-in-Ok-clause-value c =
    let year : to_z w16 c.args.year ≡ pos c.args.year = to_z_pos w16 _ (omega arith) in
    let month : to_z w8 c.args.month ≡ pos c.args.month = to_z_pos w8 _ (omega arith) in
    let day : to_z w8 c.args.day ≡ pos c.args.day = to_z_pos w8 _ (omega arith) in
    let is_date = rw (year, month, day) at (c.in-Ok.ensures.succeeds.0 refl) in
    let parts = rw (year, month, day) at c.in-Ok.ensures.value in
    let month_is : c.in-Ok.date.month ≡ c.args.month = omega (arith, signed_arith, parts.1) in
    let day_is : c.in-Ok.date.day ≡ c.args.day = omega (arith, signed_arith, parts.2) in
    let number = rw (c.to_plain.ensures, parts.0, month_is, day_is) at c.to_unix_epoch_day.ensures.value in
    let cast : to_z w64 (of_z w64 c.from.result) ≡ c.to_unix_epoch_day.result = omega (arith, signed_arith) in
    day_of-IsDate _ _ _ _ is_date (cast ∙ number)
