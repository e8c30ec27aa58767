use Rattle.std.proofs.Common.{◌∙◌, ap, sym, subst, List, ◌++◌}
use Rattle.std.proofs.lemmas.Result.{on_ok_weaker}
use Rattle.json.specs.Token.{Token}
use Rattle.dr_ask.specs.declared.scan_column.ScanColumn.{ScanColumn}
use Rattle.dr_scan.proofs.EntryTokens.{AreWritten, entries-flat}
use Rattle.dr_scan.proofs.entries_writing.write_all.Goals as goal

pub returns : goal.returns
returns c =
    let s = c.args.scan.now in
    let written = subst (λ (cs : List ScanColumn). AreWritten s cs) (sym c.as_slice.ensures) c.in_ok-columns.ensures in
    on_ok_weaker c.write_entries.result
    (λ e. (e.0, e.1 ∙ ap (λ (t : List Token). c.args.out.now.tokens ++ t) (entries-flat s c.as_slice.result.now written c.args.entries.now)))
    c.write_entries.ensures
