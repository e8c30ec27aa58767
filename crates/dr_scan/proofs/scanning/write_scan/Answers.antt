use Rattle.std.proofs.Common.{◌∙◌, ap, sym, subst, List, ◌++◌}
use Rattle.std.proofs.lemmas.Result.{on_ok_weaker}
use Rattle.json.specs.Token.{Token}
use Rattle.dr_ask.specs.Asked.{asked}
use Rattle.dr_ask.specs.declared.scan_column.ScanColumn.{ScanColumn}
use Rattle.dr_scan.proofs.EntryTokens.{AreWritten, entries-ordered, entries-unordered}
use Rattle.dr_scan.proofs.scanning.write_scan.Goals as goal

pub returns-in-None : goal.returns-in-None
returns-in-None c =
    let s = c.args.scan.now in
    let written = subst (λ (cs : List ScanColumn). AreWritten s cs) (sym c.as_slice-columns.ensures) c.in_ok-columns.ensures in
    on_ok_weaker c.write_segments.result
    (λ e. (e.0, e.1 ∙ ap (λ (t : List Token). c.args.out.now.tokens ++ t) (entries-unordered s c.as_slice-columns.result.now written (asked c.args.query.now) c.args.segments.now c.in-None.is)))
    c.write_segments.ensures

pub returns : goal.returns
returns c =
    let s = c.args.scan.now in
    let written = subst (λ (cs : List ScanColumn). AreWritten s cs) (sym c.as_slice-columns.ensures) c.in_ok-columns.ensures in
    on_ok_weaker c.write_ordered.result
    (λ e. (e.0, e.1 ∙ ap (λ (t : List Token). c.args.out.now.tokens ++ t) (entries-ordered s c.as_slice-columns.result.now written (asked c.args.query.now) c.args.segments.now c.in-Some.order c.in-Some.is)))
    c.write_ordered.ensures
