use Rattle.dr_gran.proofs.NestingLemmas.{truncation-together}
use Rattle.dr_gran.proofs.laws.nested_buckets_lie_in_one_bucket.Goals as goal

pub returns : goal.returns
returns c = λ g h t u e from from_u same. truncation-together g h e t u from from_u same
