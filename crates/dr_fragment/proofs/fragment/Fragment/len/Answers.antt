use Rattle.std.proofs.Common.{◌≡◌, ◌∙◌, sym, ap, length}
use Rattle.dr_image.specs.Table.{Table}
use Rattle.dr_image.specs.Layout.{read_table}
use Rattle.dr_image.proofs.OpenLemmas.{opened_as}
use Rattle.dr_fragment.specs.Ranged.{Ranged}
use Rattle.dr_fragment.specs.Held.{rows_held}
use Rattle.dr_fragment.proofs.ImageRows.{rows_long}
use Rattle.dr_fragment.proofs.fragment.Fragment.len.Goals as goal

pub returns-in-Image : goal.returns-in-Image
returns-in-Image c =
    let rows = ap rows_held c.in-Image.is in
    let same : c.of_image.result ≡ read_table c.in-Image.bytes.items = sym (opened_as c.deref.result.now c.of_image.result c.of_image.ensures.value) ∙ ap read_table c.deref.ensures.value in
    c.row_count.ensures.value ∙ ap (λ (t : Table). length t.times) same ∙ sym (rows_long (read_table c.in-Image.bytes.items))
    ∙ ap length (sym rows) ∙ ap (λ (f : Ranged). length f.rows) c.self.view_is
