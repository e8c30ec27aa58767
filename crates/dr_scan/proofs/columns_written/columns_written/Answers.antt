use Rattle.std.proofs.Common.{◌≡◌, ◌∙◌, ap, sym, subst, List, [], map}
use Rattle.std.proofs.lemmas.Result.{IfOk-weaker}
use Rattle.dr_ask.specs.declared.result_format.ResultFormat.{ResultFormat}
use Rattle.dr_ask.specs.declared.scan_column.ScanColumn.{ScanColumn}
use Rattle.dr_scan.specs.ScanText.{row_data}
use Rattle.dr_scan.specs.Written.{column_of, with_sources, written_row}
use Rattle.dr_scan.proofs.RowMembers.{row-by_name}
use Rattle.dr_scan.proofs.columns_written.columns_written.Goals as goal

pub returns-in-List : goal.returns-in-List
returns-in-List c =
    let columns = c.args.scan.now.columns in
    IfOk-weaker c.by_name.result _ _
    (λ cs is r.
    subst (λ (format : ResultFormat). written_row format cs r ≡ row_data format columns r) (sym c.in-List.is)
    (row-by_name r columns cs (is ∙ ap (λ (all : List ScanColumn). map column_of (with_sources [] all)) c.as_slice.ensures)))
    c.by_name.ensures
