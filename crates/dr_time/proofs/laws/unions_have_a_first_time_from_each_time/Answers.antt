use Rattle.dr_time.proofs.UnionLemmas.{union_first_from-first}
use Rattle.dr_time.proofs.laws.unions_have_a_first_time_from_each_time.Goals as goal

pub returns : goal.returns
returns c = union_first_from-first
