use Rattle.std.proofs.Common.{◌∙◌}
use Rattle.dr_dict.proofs.growing_dict.GrowingDict.number_of.Goals as goal

pub returns-in_err-place : goal.returns-in_err-place
returns-in_err-place c = rw (← c.self.view_is) (c.from_residual.ensures ∙ c.in_err-place.ensures.index)

pub returns : goal.returns
returns c = rw (← c.self.view_is) c.in_ok-place.ensures.index
