use Rattle.dr_requests.proofs.GrammarLemmas.{read_is_spelled}
use Rattle.dr_requests.proofs.laws.what_is_read_is_spelled.Goals as goal

pub returns : goal.returns
returns c = read_is_spelled
