use Rattle.std.proofs.Common.{◌≡◌, take}
use Rattle.dr_core.specs.Run.{RunFrom}
use Rattle.dr_core.proofs.core_run.take.Given as goal

abbrev pub invariant-loop-step : goal.invariant-loop-step
invariant-loop-step l = (l.core.timeline.schema ≡ l.fn.core.timeline.schema) × RunFrom l.fn.core (take l.step-index l.steps) l.replies.items l.core
