use Rattle.dr_script.proofs.answering.carry_out.Goals as goal

pub returns-clause-threads : goal.returns-clause-threads
returns-clause-threads g c = rw c.in_ok-request.ensures c.carry_out.ensures.threads
