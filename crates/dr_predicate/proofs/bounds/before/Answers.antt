use Rattle.std.proofs.Common.{◌∙◌, not, Some}
use Rattle.dr_predicate.specs.Within.{not_after}
use Rattle.dr_predicate.proofs.Gaps.{before-start}
use Rattle.dr_predicate.proofs.bounds.before.Goals as goal

pub returns : goal.returns
returns c = λ text.
    (λ k. not_after (Some (c.in_ok-upper.ensures k)) (not (c.start_strict-upper_strict.ensures k)) text) ∙ before-start c.args.lower c.args.strict text
