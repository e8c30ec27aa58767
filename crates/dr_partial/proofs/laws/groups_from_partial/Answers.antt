use Rattle.dr_partial.proofs.Groups as groups
use Rattle.dr_partial.proofs.laws.groups_from_partial.Goals as goal

pub returns : goal.returns
returns c = λ q rows. groups.groups-from_partial q rows
