-- Each hole shows its part of the date.
use Rattle.std.proofs.Common.{◌≡◌, ◌∙◌, ap, Some, string_bytes, FitsSigned, to_z, of_z, w64, unsigned_abs, rules}
use mir.Syntax.{w8, w16}
use Rattle.std.proofs.lemmas.Int.{to_z-of_z}
use Rattle.dr_time.specs.Calendar.{year_at, month_of_year_at, day_of_month_at, since_year_zero}
use Rattle.dr_time.specs.Printed.{zero_padded}
use Rattle.dr_time.proofs.PrintedLemmas.{formatted, date_text-pieces, styled_two, styled_four}
use Rattle.dr_time.proofs.printing.date_text.Goals as goal

pub returns : goal.returns
returns c =
    let fits : FitsSigned w64 c.args.day = c.ranges.day in
    let date = simp to_z-of_z at c.date_of_day-date.ensures in
    let year_fits : FitsSigned w16 c.year.result = search rules in
    let month_fits : FitsSigned w8 c.month.result = search rules in
    let day_fits : FitsSigned w8 c.day.result = search rules in
    let year_is : unsigned_abs (to_z w16 (of_z w16 c.year.result)) ≡ year_at (since_year_zero c.args.day) = simp to_z-of_z (ap unsigned_abs (c.year.ensures ∙ date.year)) in
    let month_is : unsigned_abs (to_z w8 (of_z w8 c.month.result)) ≡ month_of_year_at (since_year_zero c.args.day) = simp to_z-of_z (ap unsigned_abs c.month.ensures ∙ date.month) in
    let day_is : unsigned_abs (to_z w8 (of_z w8 c.day.result)) ≡ day_of_month_at (since_year_zero c.args.day) = simp to_z-of_z (ap unsigned_abs c.day.ensures ∙ date.day) in
    formatted c.format.result string_bytes _ _ c.format.ensures.ok
    (ap Some (date_text-pieces (since_year_zero c.args.day) _ _ _
    (rw (c.laid_out.ensures, styled_four) (ap (zero_padded 4) year_is))
    (rw (c.laid_out-2.ensures, styled_two) (ap (zero_padded 2) month_is))
    (rw (c.laid_out-3.ensures, styled_two) (ap (zero_padded 2) day_is))))
