use Rattle.dr_script.specs.Replies.{seen}
use Rattle.dr_script.proofs.Refusals.{told-moves}
use Rattle.dr_script.proofs.answering.answer_line.Goals as goal

pub returns-in-Err : goal.returns-in-Err
returns-in-Err g c = told-moves c.args.session.now c.carry_out.new.session c.args.line.now (seen c.told.result) c.requires c.in-Err.ensures.err c.in-Err.error c.in-Err.ensures.step c.in-Err.ensures.threads c.told.ensures.told c.told.ensures.memory
