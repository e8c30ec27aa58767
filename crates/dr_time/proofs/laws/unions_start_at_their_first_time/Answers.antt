use Rattle.dr_time.proofs.UnionLemmas.{union_start-first}
use Rattle.dr_time.proofs.laws.unions_start_at_their_first_time.Goals as goal

pub returns : goal.returns
returns c = union_start-first
