use Rattle.std.proofs.Common.{◌∙◌, sym}
use Rattle.dr_predicate.specs.Match.{not_before}
use Rattle.dr_predicate.proofs.Ends.{upper-lowered, upper-kept}
use Rattle.dr_predicate.proofs.bounds.Bounds.narrow_upper.Goals as goal

pub returns-then-not-ends_before : goal.returns-then-not-ends_before
returns-then-not-ends_before c = λ text.
    let b = c.args.self.now in
    upper-kept text c.args.upper c.args.strict b.upper b.upper_strict (not_before b.lower b.lower_strict text) (sym c.ends_before.ensures ∙ c.if-not-ends_before.true)

pub returns : goal.returns
returns c = λ text.
    let b = c.args.self.now in
    upper-lowered text c.args.upper c.args.strict b.upper b.upper_strict (not_before b.lower b.lower_strict text) (sym c.ends_before.ensures ∙ c.if-not-ends_before.false)
