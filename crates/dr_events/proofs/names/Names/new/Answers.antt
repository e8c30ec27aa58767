use Rattle.dr_dict.proofs.Texts.{distinct-nil}
use Rattle.dr_events.proofs.names.Names.new.Goals as goal

pub invariant_of-result : goal.invariant_of-result
invariant_of-result c = rw c.new.ensures.empty distinct-nil
