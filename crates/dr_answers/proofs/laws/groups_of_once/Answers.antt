use Rattle.dr_answers.proofs.OnceGroups.{groups-once}
use Rattle.dr_answers.proofs.laws.groups_of_once.Goals as goal

pub returns : goal.returns
returns c = λ q rows. groups-once q rows
