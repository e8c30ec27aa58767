use Rattle.dr_time.proofs.ReadLemmas.{instant_of-read}
use Rattle.dr_time.proofs.laws.what_is_read_is_spelled.Goals as goal

pub returns : goal.returns
returns c = instant_of-read
