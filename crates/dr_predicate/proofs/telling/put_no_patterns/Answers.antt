use Rattle.std.proofs.Common.{◌∙◌, ap, ◌&&◌, not}
use Rattle.dr_predicate.specs.Asked.{dimensions_told}
use Rattle.dr_predicate.specs.Match.{value_at}
use Rattle.dr_predicate.proofs.telling.put_no_patterns.Goals as goal

pub returns : goal.returns
returns c = λ dims.
    c.in_ok-put_divided.ensures dims
    ∙ ap (λ b. dimensions_told dims c.args.tests.now.items && not b) (c.in_ok-divided.ensures (value_at c.args.place dims))
