use Rattle.std.proofs.Common.{◌≡◌, ◌∙◌, sym, ap, List, length}
use Rattle.dr_base.specs.declared.row.Row.{Row}
use Rattle.dr_image.specs.Table.{rows_of}
use Rattle.dr_fragment.specs.LyingRows.{rows_lying}
use Rattle.dr_fragment.proofs.ImageRows.{rows_long}
use Rattle.dr_fragment.proofs.lying_rows.LyingRows.len.Goals as goal

pub returns-in-InImage : goal.returns-in-InImage
returns-in-InImage c =
    let is : c.args.self.now ≡ rows_of c.in-InImage.view = sym c.self.view_is ∙ ap rows_lying c.in-InImage.is in
    c.row_count.ensures.value ∙ sym (rows_long c.in-InImage.view) ∙ sym (ap (λ (rs : List Row). length rs) is)
