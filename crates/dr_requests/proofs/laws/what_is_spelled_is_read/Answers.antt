use Rattle.dr_requests.proofs.GrammarLemmas.{spelled_is_read}
use Rattle.dr_requests.proofs.laws.what_is_spelled_is_read.Goals as goal

pub returns : goal.returns
returns c = spelled_is_read
