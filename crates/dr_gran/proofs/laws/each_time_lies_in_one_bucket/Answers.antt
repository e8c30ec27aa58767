use Rattle.dr_gran.proofs.TruncationLemmas.{lies_in_one_bucket}
use Rattle.dr_gran.proofs.laws.each_time_lies_in_one_bucket.Goals as goal

pub returns : goal.returns
returns c = lies_in_one_bucket
