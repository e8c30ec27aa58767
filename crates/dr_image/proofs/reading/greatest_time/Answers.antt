use Rattle.std.proofs.Common.{◌≡◌, ◌∙◌, ◌-◌, sym, ap, length, slice_get, Some, FitsSigned, rules}
use Rattle.std.specs.Int.{w64}
use Rattle.std.proofs.lemmas.Int.{to_z-of_z}
use Rattle.dr_image.proofs.LayoutLemmas.{times_seen}
use Rattle.dr_image.specs.Layout.{read_table}
use Rattle.dr_image.specs.Table.{Table}
use Rattle.dr_image.specs.Layout.{parts_in}
use Rattle.dr_image.proofs.OrderLemmas.{greatest_is}
use Rattle.dr_image.proofs.reading.greatest_time.Goals as goal

pub returns-clause-greatest : goal.returns-clause-greatest
returns-clause-greatest c =
    let t : Table = read_table c.args.layout.now.bytes.now in
    let fits : FitsSigned w64 c.time_at.result = search rules in
    let count : length t.times ≡ c.rows.result = times_seen c.args.layout.now.bytes.now ∙ sym c.rows.ensures.value in
    greatest_is t.rollup t.times (parts_in c.args.layout.now.bytes.now) _ c.requires.checked.ranks (ap (λ n. slice_get t.times (n - 1)) count ∙ c.time_at.ensures ∙ ap Some (sym (to_z-of_z w64 c.time_at.result fits)))
