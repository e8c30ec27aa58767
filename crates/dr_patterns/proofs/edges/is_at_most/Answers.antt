use Rattle.std.proofs.Common.{◌∙◌, sym, ap}
use Rattle.std.specs.Ordering.{is_le}
use Rattle.dr_patterns.specs.Sides.{seen}
use Rattle.dr_patterns.proofs.Begun.{at_most-le}
use Rattle.dr_patterns.proofs.edges.is_at_most.Goals as goal

pub returns : goal.returns
returns c = c.is_le.ensures ∙ ap is_le c.order.ensures ∙ sym (at_most-le (seen c.args.side c.args.edge.now) (seen c.args.side c.args.text.now))
