use Rattle.std.proofs.Common.{arith}
use Rattle.dr_dict.proofs.Texts.{distinct-nil}
use Rattle.dr_dict.proofs.growing_dict.GrowingDict.new.Goals as goal

pub invariant_of-result : goal.invariant_of-result
invariant_of-result c = rw c.new.ensures.empty (omega arith, c.requires, distinct-nil)
