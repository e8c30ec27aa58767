use Rattle.std.proofs.Common.{[], ◌++◌}
use Rattle.std.proofs.lemmas.Result.{err_from_is_err_and}
use Rattle.dr_lines.proofs.WrittenLemmas.{Puts-trans, lost_with}
use Rattle.dr_lines.proofs.line_writer.LineWriter.put.Goals as goal

pub returns-in_err-empty-clause-bytes : goal.returns-in_err-empty-clause-bytes
returns-in_err-empty-clause-bytes g c =
    let p = err_from_is_err_and c.from_residual.result c.from_residual.ensures.1 in
    let bytes = c.in_err-empty.ensures.bytes in
    rw p.1 (bytes.0 ++ c.args.bytes.now, lost_with _ _ _ bytes.0 c.args.bytes.now (rw (← c.if-keep.ensures) bytes.1))

pub returns-clause-bytes : goal.returns-clause-bytes
returns-clause-bytes g c =
    rw (c.if-keep-2.ensures, c.in_ok-empty.ensures.empty, ← c.if-keep.ensures)
    (Puts-trans _ _ _ _ [] c.args.bytes.now [] c.write_out.result c.in_ok-empty.ensures.bytes c.write_out.ensures.bytes)
