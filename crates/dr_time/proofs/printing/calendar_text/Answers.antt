-- The text is that of the day and that of the milliseconds since midnight.
use Rattle.std.proofs.Common.{◌≡◌, ◌∙◌, ap, unsigned_abs, FitsSigned, w64, rules}
use Rattle.std.proofs.lemmas.Int.{to_z-of_z}
use Rattle.dr_time.specs.Printed.{day_number_at, millis_at}
use Rattle.dr_time.proofs.PrintedLemmas.{calendar_text-pieces}
use Rattle.dr_time.proofs.printing.calendar_text.Goals as goal

pub returns : goal.returns
returns c =
    let fits : FitsSigned w64 c.args.instant = c.ranges.instant in
    let day_fits : FitsSigned w64 c.div_euclid.result = search rules in
    let rem_fits : FitsSigned w64 c.rem_euclid.result = search rules in
    let day_is : c.div_euclid.result ≡ day_number_at c.args.instant = simp to_z-of_z at c.div_euclid.ensures in
    let rem_is = simp to_z-of_z at c.rem_euclid.ensures.value in
    let millis_is : unsigned_abs c.rem_euclid.result ≡ millis_at c.args.instant = ap unsigned_abs rem_is in
    let date_is = simp day_is at (simp to_z-of_z at c.in_ok-date.ensures) in
    let clock_is = simp millis_is at (simp to_z-of_z at c.in_ok-clock.ensures) in
    c.in_ok-text.ensures ∙ (c.in_ok-format.ensures.ok ∙ calendar_text-pieces c.args.instant _ _ date_is clock_is)
