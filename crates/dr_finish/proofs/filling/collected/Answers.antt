use Rattle.std.proofs.Common.{◌∙◌, sym, ap, ◌++◌, append-nil}
use Rattle.dr_finish.proofs.filling.collected.Goals as goal

pub returns : goal.returns
returns c = sym (append-nil c.loop-start.starts.items) ∙ ap (λ l. c.loop-start.starts.items ++ l) (sym c.in-None.ensures.steps.0) ∙ c.loop-start.invariant
