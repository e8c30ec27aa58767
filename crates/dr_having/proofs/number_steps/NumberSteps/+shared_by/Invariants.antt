use Rattle.std.proofs.Common.{length}
use Rattle.dr_having.proofs.number_steps.NumberSteps.+shared_by.Given as goal

abbrev pub decreases-shared_by : goal.decreases-shared_by
decreases-shared_by l = length l.sets.now
