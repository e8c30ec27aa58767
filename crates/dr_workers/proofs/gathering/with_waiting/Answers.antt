use Rattle.std.proofs.Common.{◌∙◌, ◌++◌, ap}
use Rattle.dr_ask.specs.Once.{asked_once}
use Rattle.dr_partial.specs.Partial.{partial}
use Rattle.dr_workers.proofs.Selected.{all-added}
use Rattle.dr_workers.proofs.gathering.with_waiting.Goals as goal

pub returns-clause-value : goal.returns-clause-value
returns-clause-value c = λ rows old.
    all-added c.args.query.now rows c.args.groups c.args.waiting.now.items c.in_ok-groups.groups old (
      c.in_ok-groups.ensures.value old.added old.fold.0 ∙ ap (λ more. partial (asked_once c.args.query.now) (old.added ++ more)) c.as_slice.ensures.value,
      λ starts. c.in_ok-groups.ensures.printable starts (old.fold.1 starts),
    )
