use Rattle.std.proofs.Common.{length}
use Rattle.dr_filter.proofs.times.+every_time.Given as goal

abbrev pub decreases-every_time : goal.decreases-every_time
decreases-every_time l = length l.unions.now
