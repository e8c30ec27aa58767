use Rattle.dr_time.proofs.DateLemmas.{day_number-1970}
use Rattle.dr_time.proofs.laws.days_are_counted_from_1970.Goals as goal

pub returns : goal.returns
returns c = day_number-1970
