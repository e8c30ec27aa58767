use Rattle.dr_gran.proofs.BucketsLemmas.{buckets_of-first}
use Rattle.dr_gran.proofs.laws.buckets_are_the_first_filled_ones.Goals as goal

pub returns : goal.returns
returns c = buckets_of-first
