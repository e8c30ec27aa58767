use Rattle.std.proofs.Common.{◌≡◌, ◌∙◌, sym, ap, subst, ◌<◌, List, Some, length, slice_get}
use Rattle.dr_base.specs.declared.row.Row.{Row}
use Rattle.dr_image.specs.Table.{rows_of}
use Rattle.dr_fragment.specs.LyingRows.{rows_lying}
use Rattle.dr_fragment.proofs.ImageRows.{rows_long, row_of_image}
use Rattle.dr_fragment.proofs.lying_rows.LyingRows.row.Goals as goal

pub row_at-requires : goal.row_at-requires
row_at-requires c =
    let is : c.args.self.now ≡ c.in-Lent.rows.now = sym c.self.view_is ∙ ap rows_lying c.in-Lent.is in
    subst (λ n. c.args.i < n) (ap (λ (rs : List Row). length rs) is) c.requires

pub returns-in-Lent : goal.returns-in-Lent
returns-in-Lent c =
    let is : c.args.self.now ≡ c.in-Lent.rows.now = sym c.self.view_is ∙ ap rows_lying c.in-Lent.is in
    ap (λ (rs : List Row). slice_get rs c.args.i) is ∙ c.row_at.ensures

pub in_image-requires : goal.in_image-requires
in_image-requires c =
    let is : c.args.self.now ≡ rows_of c.in-InImage.view = sym c.self.view_is ∙ ap rows_lying c.in-InImage.is in
    subst (λ n. c.args.i < n) (ap (λ (rs : List Row). length rs) is ∙ rows_long c.in-InImage.view) c.requires

pub returns-in-InImage : goal.returns-in-InImage
returns-in-InImage c =
    let is : c.args.self.now ≡ rows_of c.in-InImage.view = sym c.self.view_is ∙ ap rows_lying c.in-InImage.is in
    let there = subst (λ n. c.args.i < n) (ap (λ (rs : List Row). length rs) is ∙ rows_long c.in-InImage.view) c.requires in
    ap (λ (rs : List Row). slice_get rs c.args.i) is ∙ row_of_image c.in-InImage.view c.args.i there ∙ ap Some (sym c.in_image.ensures)
