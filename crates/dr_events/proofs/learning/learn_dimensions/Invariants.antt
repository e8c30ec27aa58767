use Rattle.std.proofs.Common.{take}
use Rattle.dr_events.specs.Scalars.{AreNamed}
use Rattle.dr_events.proofs.MoreNames.{More}
use Rattle.dr_events.proofs.learning.learn_dimensions.Given as goal

abbrev pub invariant-loop-column : goal.invariant-loop-column
invariant-loop-column l = AreNamed l.names (take l.column-index l.columns) l.places.items × More l.initial.names l.names
