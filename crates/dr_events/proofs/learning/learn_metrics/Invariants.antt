use Rattle.std.proofs.Common.{take}
use Rattle.dr_events.specs.Scalars.{AreRead}
use Rattle.dr_events.proofs.MoreNames.{More}
use Rattle.dr_events.proofs.learning.learn_metrics.Given as goal

abbrev pub invariant-loop-metric : goal.invariant-loop-metric
invariant-loop-metric l = AreRead l.names (take l.metric-index l.metrics) l.inputs.items × More l.initial.names l.names
