use Rattle.dr_gran.proofs.TruncationLemmas.{IsNext-next}
use Rattle.dr_gran.proofs.laws.buckets_end_at_the_least_start_after.Goals as goal

pub returns : goal.returns
returns c = IsNext-next
