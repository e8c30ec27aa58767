use Rattle.std.proofs.Common.{◌∙◌}
use Rattle.dr_predicate.proofs.Reaching.{ends_within-none, ends_within-last}
use Rattle.dr_predicate.proofs.ranges.ends_within.Goals as goal

pub returns-then-len-eq0 : goal.returns-then-len-eq0
returns-then-len-eq0 c = ends_within-none c.args.outer.now c.args.bounds.now c.if-len-eq0.true

pub returns : goal.returns
returns c = c.ends_before.ensures ∙ ends_within-last c.args.outer.now c.index-outer-len.result _ c.args.bounds.now c.index-outer-len.is c.if-len-eq0.false
