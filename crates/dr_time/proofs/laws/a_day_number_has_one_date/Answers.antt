use Rattle.dr_time.proofs.DateLemmas.{day_number_injective}
use Rattle.dr_time.proofs.laws.a_day_number_has_one_date.Goals as goal

pub returns : goal.returns
returns c = day_number_injective
