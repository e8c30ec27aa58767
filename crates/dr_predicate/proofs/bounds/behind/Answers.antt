use Rattle.std.proofs.Common.{◌∙◌, sym, ap, not}
use Rattle.dr_predicate.specs.Within.{not_after}
use Rattle.dr_predicate.proofs.Gaps.{behind-end}
use Rattle.dr_predicate.proofs.bounds.behind.Goals as goal

pub returns : goal.returns
returns c = λ text. behind-end c.in-Some.upper c.args.strict text ∙ ap (λ u. not (not_after u c.args.strict text)) (sym c.in-Some.is)
