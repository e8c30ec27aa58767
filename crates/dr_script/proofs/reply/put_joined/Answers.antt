use Rattle.dr_script.proofs.reply.put_joined.Goals as goal

pub returns-in-Publish-clause-bytes : goal.returns-in-Publish-clause-bytes
returns-in-Publish-clause-bytes g c = rw c.in-Publish.is c.put_number.ensures.bytes
