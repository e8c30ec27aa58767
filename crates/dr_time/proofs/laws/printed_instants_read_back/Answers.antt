use Rattle.dr_time.proofs.RoundTrip.{read_back}
use Rattle.dr_time.proofs.laws.printed_instants_read_back.Goals as goal

pub returns : goal.returns
returns c = read_back
