use Rattle.std.proofs.Common.{◌∙◌, sym}
use Rattle.dr_partial.proofs.Made.{counted}
use Rattle.dr_partial.proofs.partial.Partial.len.Goals as goal

pub returns : goal.returns
returns c = rw (← c.self.view_is) (c.len.ensures.len ∙ sym (counted c.self.inside.groups))
