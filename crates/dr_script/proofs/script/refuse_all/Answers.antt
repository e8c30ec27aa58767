use Rattle.std.proofs.Common.{[]}
use Rattle.std.proofs.lemmas.Result.{err_from_is_err_and}
use Rattle.dr_script.proofs.ScriptSteps.{no_memory, no_memory_lost}
use Rattle.dr_script.proofs.script.refuse_all.Goals as goal

pub returns-clause-script : goal.returns-clause-script
returns-clause-script g c = λ left rest. no_memory left rest _ _ c.in_ok-write_out.ensures.bytes

pub returns-in_err-write_out-clause-script : goal.returns-in_err-write_out-clause-script
returns-in_err-write_out-clause-script g c =
    let p = err_from_is_err_and c.from_residual.result c.from_residual.ensures.1 in
    let lost = c.in_err-write_out.ensures.bytes in
    λ left rest. rw p.1 (no_memory_lost left rest _ _ lost.0 [] p.0 lost.1)
