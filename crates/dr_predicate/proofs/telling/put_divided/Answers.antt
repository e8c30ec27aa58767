use Rattle.std.proofs.Common.{◌∙◌, ap, ◌&&◌, not}
use Rattle.dr_patterns.specs.Fitting.{fits_some}
use Rattle.dr_predicate.specs.Asked.{dimensions_told}
use Rattle.dr_predicate.specs.Match.{value_at}
use Rattle.dr_predicate.proofs.Dimensions.{denied_with}
use Rattle.dr_predicate.proofs.telling.put_divided.Goals as goal

pub returns : goal.returns
returns c = λ dims.
    let value = value_at c.args.place dims in
    let tried = fits_some c.args.patterns.tried.items value in
    c.in_ok-put_tried.ensures dims
    ∙ ap (λ b. b && not tried) (c.in_ok-put_together.ensures dims)
    ∙ denied_with (dimensions_told dims c.args.tests.now.items) (fits_some c.args.patterns.together.items value) tried
