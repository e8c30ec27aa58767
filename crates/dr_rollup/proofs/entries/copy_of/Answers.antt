use Rattle.std.proofs.Common.{subst, IfSome}
use Rattle.dr_rollup.specs.Placed.{AreFound}
use Rattle.dr_rollup.proofs.entries.copy_of.Goals as goal

pub returns-in_ok-copy-in-Some-clause-places : goal.returns-in_ok-copy-in-Some-clause-places
returns-in_ok-copy-in-Some-clause-places c = λ keys found. c.in_ok-copy-in-Some.ensures keys (subst (λ o. IfSome o (AreFound keys)) c.in-Some.is found)
