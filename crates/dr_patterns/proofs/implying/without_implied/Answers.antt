use Rattle.std.proofs.Common.{◌∙◌}
use Rattle.dr_patterns.proofs.Implied.{all-moved}
use Rattle.dr_patterns.proofs.implying.without_implied.Goals as goal

pub returns : goal.returns
returns c = λ text. c.in_ok-without_neighbours.ensures text ∙ all-moved _ _ text c.sort_unstable_by.ensures.permutation
