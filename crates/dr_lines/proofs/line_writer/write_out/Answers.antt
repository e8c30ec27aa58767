use Rattle.std.proofs.Common.{◌∙◌, take, drop, arith, length-drop}
use Rattle.std.proofs.lemmas.List.{take_rest}
use Rattle.std.proofs.Math.Seq.{take-add}
use Rattle.std.proofs.KnownBytes.{Appends-trans, Appends-kept}
use Rattle.dr_lines.proofs.WrittenLemmas.{Writes-first}
use Rattle.dr_lines.proofs.line_writer.write_out.Goals as goal

pub loop-written-preserved : goal.loop-written-preserved
loop-written-preserved g c =
    let written = c.loop-written.written in
    let bytes = c.args.bytes.now in
    let part = rw (take_rest bytes written) at c.in-Ok.ensures.bytes in
    let bound = rw (take_rest bytes written) at c.in-Ok.ensures.bound in
    record {
      within = omega (arith, length-drop written bytes);
      taken = rw (take-add written c.in-Ok.taken bytes) (Appends-trans _ _ _ (take written bytes) (take c.in-Ok.taken (drop written bytes)) c.loop-written.invariant.taken part);
      failures = c.in-Ok.ensures.failures ∙ c.loop-written.invariant.failures;
    }

pub returns-in-Err-clause-bytes : goal.returns-in-Err-clause-bytes
returns-in-Err-clause-bytes g c =
    let written = c.loop-written.written in
    let bytes = c.args.bytes.now in
    (drop written bytes, Writes-first _ _ written bytes (Appends-kept _ _ _ (take written bytes) c.loop-written.invariant.taken c.in-Err.ensures.bytes))
