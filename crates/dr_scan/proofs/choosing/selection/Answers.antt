use Rattle.dr_ask.specs.Asked.{asked}
use Rattle.dr_scan.proofs.ImageRows.{told-there}
use Rattle.dr_scan.proofs.choosing.selection.Goals as goal

pub returns-in_ok-selection_in-in-Some : goal.returns-in_ok-selection_in-in-Some
returns-in_ok-selection_in-in-Some c =
    told-there c.in-Some.view.now c.args.rows.now c.in-Some.ensures (asked c.args.query.now) c.in_ok-selection_in-in-Some.field-0 c.in_ok-selection_in-in-Some.ensures
