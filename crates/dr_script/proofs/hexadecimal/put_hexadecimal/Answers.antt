use Rattle.std.proofs.Common.{refl, ◌∙◌, arith, length-drop}
use Rattle.std.proofs.lemmas.List.{take_rest}
use Rattle.std.proofs.lemmas.Result.{err_from_is_err_and}
use Rattle.dr_script.proofs.DigitLemmas.{loses_piece, puts_no_digit, puts_piece}
use Rattle.dr_script.proofs.hexadecimal.put_hexadecimal.Goals as goal

pub loop-done-init : goal.loop-done-init
loop-done-init g c = record { within = omega arith; taken = puts_no_digit _ c.args.lines.now; failures = refl }

pub returns-in_err-put_piece-clause-bytes : goal.returns-in_err-put_piece-clause-bytes
returns-in_err-put_piece-clause-bytes g c =
    let p = err_from_is_err_and c.from_residual.result c.from_residual.ensures.1 in
    let bytes = c.args.bytes.now in
    let done = c.loop-done.done in
    let lost = rw (take_rest bytes done) at c.in_err-put_piece.ensures.bytes in
    rw p.1 (loses_piece _ _ _ c.args.lines.now bytes done c.min-count.result c.loop-done.lines lost.0 c.loop-done.invariant.taken lost.1)

pub loop-done-preserved : goal.loop-done-preserved
loop-done-preserved g c =
    let bytes = c.args.bytes.now in
    let done = c.loop-done.done in
    let piece = rw (take_rest bytes done) at c.in_ok-put_piece.ensures.bytes in
    let least = rw (take_rest bytes done) at c.min-count.ensures in
    record {
      within = omega (arith, length-drop done bytes);
      taken = puts_piece _ _ _ c.args.lines.now bytes done c.min-count.result c.loop-done.lines c.put_piece.new.lines c.loop-done.invariant.taken piece;
      failures = c.in_ok-put_piece.ensures.failures ∙ c.loop-done.invariant.failures;
    }
