use Rattle.std.proofs.Common.{◌∙◌, sym}
use Rattle.dr_predicate.specs.Match.{not_after}
use Rattle.dr_predicate.proofs.Ends.{lower-raised, lower-kept}
use Rattle.dr_predicate.proofs.bounds.Bounds.narrow_lower.Goals as goal

pub returns-then-not-starts_behind : goal.returns-then-not-starts_behind
returns-then-not-starts_behind c = λ text.
    let b = c.args.self.now in
    lower-kept text c.args.lower c.args.strict b.lower b.lower_strict (not_after b.upper b.upper_strict text) (sym c.starts_behind.ensures ∙ c.if-not-starts_behind.true)

pub returns : goal.returns
returns c = λ text.
    let b = c.args.self.now in
    lower-raised text c.args.lower c.args.strict b.lower b.lower_strict (not_after b.upper b.upper_strict text) (sym c.starts_behind.ensures ∙ c.if-not-starts_behind.false)
