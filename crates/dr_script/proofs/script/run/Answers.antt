use Rattle.std.proofs.Common.{[]}
use Rattle.std.proofs.lemmas.Result.{err_from_is_err_and}
use Rattle.dr_script.proofs.ScriptSteps.{is_spec, no_line, opened_lost, opened_then, refuses, refuses_lost}
use Rattle.dr_script.proofs.script.run.Goals as goal

pub returns-in-None-clause-script : goal.returns-in-None-clause-script
returns-in-None-clause-script g c = no_line _ _ _ _ _ _ c.in-None.ensures.opening.0 c.in-None.ensures.opening.1

pub returns-in_ok-put-in-Some-Err-clause-script : goal.returns-in_ok-put-in-Some-Err-clause-script
returns-in_ok-put-in-Some-Err-clause-script g c =
    let opens = rw c.in-Some-Err.field-0-is at c.in-Some-Err.ensures.opening in
    rw c.is_refused-refuses.ensures (refuses _ _ _ _ _ _ _ _ _ c.in-Some-Err.refusal opens c.in_ok-put-in-Some-Err.ensures.bytes)

pub returns-in_err-put-in-Some-Err-clause-script : goal.returns-in_err-put-in-Some-Err-clause-script
returns-in_err-put-in-Some-Err-clause-script g c =
    let p = err_from_is_err_and c.from_residual.result c.from_residual.ensures.1 in
    let opens = rw c.in-Some-Err.field-0-is at c.in-Some-Err.ensures.opening in
    let lost = c.in_err-put-in-Some-Err.ensures.bytes in
    rw p.1 (refuses_lost _ _ _ _ _ _ _ _ lost.0 [] c.in-Some-Err.refusal p.0 opens lost.1)

pub returns-in_err-put-in-Some-Ok-clause-script : goal.returns-in_err-put-in-Some-Ok-clause-script
returns-in_err-put-in-Some-Ok-clause-script g c =
    let p = err_from_is_err_and c.from_residual-in_err-put-in-Some-Ok.result c.from_residual-in_err-put-in-Some-Ok.ensures.1 in
    let spec = is_spec _ _ _ _ _ c.in-Some-Ok.session (rw c.in-Some-Ok.field-0-is at c.in-Some-Ok.ensures.opening) in
    let lost = c.in_err-put-in-Some-Ok.ensures.bytes in
    rw p.1 (opened_lost _ _ _ _ _ _ _ _ _ lost.0 [] p.0 spec lost.1)

pub returns-in_ok-put-in-Some-Ok-clause-script : goal.returns-in_ok-put-in-Some-Ok-clause-script
returns-in_ok-put-in-Some-Ok-clause-script g c =
    let spec = is_spec _ _ _ _ _ c.in-Some-Ok.session (rw c.in-Some-Ok.field-0-is at c.in-Some-Ok.ensures.opening) in
    let answers = rw spec.holds at c.answer_lines-refuses.ensures.answers in
    opened_then _ _ _ _ _ _ _ _ _ _ _ _ _ c.answer_lines-refuses.result spec c.in_ok-put-in-Some-Ok.ensures.bytes answers
