use Rattle.std.proofs.Common.{◌∙◌, ◌<◌, ap, sym, subst, List, ◌++◌, length}
use Rattle.std.proofs.lemmas.Result.{on_ok_weaker}
use Rattle.dr_base.specs.declared.row.Row.{Row}
use Rattle.dr_scan.specs.Rows.{row_in}
use Rattle.dr_scan.specs.Written.{row_tokens}
use Rattle.dr_scan.proofs.PlaceLemmas.{rows_at-get_or}
use Rattle.dr_scan.proofs.RowsInTurn.{row_in-found}
use Rattle.dr_scan.proofs.ordered_writing.write_place.Goals as goal

pub row-row-requires : goal.row-row-requires
row-row-requires c =
    let p = c.args.place.now in
    let is = rows_at-get_or c.args.segments.now p.segment c.index-segments-place.result c.requires.segment ∙ sym c.index-segments-place.is in
    subst (λ (rs : List Row). p.row < length rs) is c.requires.row

pub returns : goal.returns
returns c =
    let p = c.args.place.now in
    let is = rows_at-get_or c.args.segments.now p.segment c.index-segments-place.result c.requires.segment ∙ sym c.index-segments-place.is in
    let here = row_in-found c.index-segments-place.result p.row c.row-row.result c.row-row.ensures in
    on_ok_weaker c.write_row.result
    (λ e. (e.0, e.1 ∙ ap (λ (r : Row). c.args.out.now.tokens ++ row_tokens c.args.format c.args.columns.now r) (sym (ap (λ (rs : List Row). row_in rs p.row) is ∙ here))))
    c.write_row.ensures
