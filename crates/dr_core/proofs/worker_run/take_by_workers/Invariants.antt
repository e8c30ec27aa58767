use Rattle.std.proofs.Common.{◌≡◌, take}
use Rattle.dr_core.specs.WorkerRun.{RunFromByWorkers}
use Rattle.dr_core.proofs.worker_run.take_by_workers.Given as goal

abbrev pub invariant-loop-step : goal.invariant-loop-step
invariant-loop-step g l = (l.core.timeline.schema ≡ l.fn.core.timeline.schema) × RunFromByWorkers l.fn.core (take l.step-index l.steps) l.replies.items l.core
