use Rattle.std.proofs.Common.{ap, subst, is_some, IfSome}
use Rattle.std.proofs.lemmas.Result.{on_ok_weaker}
use Rattle.dr_rollup.specs.Placed.{AreFound}
use Rattle.dr_rollup.proofs.entries.place.Goals as goal

pub returns-in-Some-clause-kept : goal.returns-in-Some-clause-kept
returns-in-Some-clause-kept c = λ keys fresh found. c.put.ensures.kept keys (fresh (ap is_some c.in-Some.is)) (subst (λ o. IfSome o (AreFound keys)) c.in-Some.is found)

pub returns-in-Some-clause-put : goal.returns-in-Some-clause-put
returns-in-Some-clause-put c = on_ok_weaker c.put.result (λ put keys fresh here found. put keys (fresh (ap is_some c.in-Some.is)) here (subst (λ o. IfSome o (AreFound keys)) c.in-Some.is found)) c.put.ensures.put
