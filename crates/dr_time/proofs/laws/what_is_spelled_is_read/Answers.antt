use Rattle.dr_time.proofs.SpelledLemmas.{instant_of-reads}
use Rattle.dr_time.proofs.laws.what_is_spelled_is_read.Goals as goal

pub returns : goal.returns
returns c = instant_of-reads
