use Rattle.std.proofs.Common.{◌∙◌, sym, ap, Some, FitsSigned, rules}
use Rattle.std.specs.Int.{w64}
use Rattle.std.proofs.lemmas.Int.{to_z-of_z}
use Rattle.dr_image.specs.Layout.{read_table}
use Rattle.dr_image.specs.Table.{Table}
use Rattle.dr_image.specs.Layout.{parts_in}
use Rattle.dr_image.proofs.OrderLemmas.{least_is}
use Rattle.dr_image.proofs.reading.least_time.Goals as goal

pub returns-clause-least : goal.returns-clause-least
returns-clause-least c =
    let t : Table = read_table c.args.layout.now.bytes.now in
    let fits : FitsSigned w64 c.time_at.result = search rules in
    least_is t.rollup t.times (parts_in c.args.layout.now.bytes.now) _ c.requires.checked.ranks (c.time_at.ensures ∙ ap Some (sym (to_z-of_z w64 c.time_at.result fits)))
