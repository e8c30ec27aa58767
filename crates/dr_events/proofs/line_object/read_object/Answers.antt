use Rattle.std.proofs.Common.{refl}
use Rattle.dr_events.proofs.LineObjects.{object_of-text, object_of-no_text}
use Rattle.dr_events.proofs.line_object.read_object.Goals as goal

pub returns-in-Ok-clause-ok : goal.returns-in-Ok-clause-ok
returns-in-Ok-clause-ok c = let cases = c.in-Ok.ensures.cases in rw (object_of-text c.args.bytes.now c.in-Ok.text.now cases.0 cases.1) c.read_text.ensures.ok

pub returns-in-Ok-clause-err : goal.returns-in-Ok-clause-err
returns-in-Ok-clause-err c = let cases = c.in-Ok.ensures.cases in rw (object_of-text c.args.bytes.now c.in-Ok.text.now cases.0 cases.1) c.read_text.ensures.err

pub returns-in-Err-clause-err : goal.returns-in-Err-clause-err
returns-in-Err-clause-err c = λ _. (refl, object_of-no_text c.args.bytes.now c.in-Err.ensures.cases.0)
