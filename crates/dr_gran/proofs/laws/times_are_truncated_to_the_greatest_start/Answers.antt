use Rattle.dr_gran.proofs.TruncationLemmas.{IsTruncation-truncation}
use Rattle.dr_gran.proofs.laws.times_are_truncated_to_the_greatest_start.Goals as goal

pub returns : goal.returns
returns c = IsTruncation-truncation
