use Rattle.std.proofs.Common.{◌∙◌, ap, ◌&&◌, not}
use Rattle.dr_patterns.specs.Each.{fits_all}
use Rattle.dr_patterns.specs.Fitting.{fits_some}
use Rattle.dr_predicate.proofs.Dimensions.{three_put}
use Rattle.dr_predicate.specs.Asked.{dimensions_told, all_told}
use Rattle.dr_predicate.specs.Match.{value_at}
use Rattle.dr_predicate.proofs.telling.put_apart.Goals as goal

pub returns : goal.returns
returns c = λ dims.
    let value = value_at c.args.place dims in
    let before = dimensions_told dims c.args.tests.now.items in
    let each = fits_all c.args.apart.patterns.items value in
    let none = not (fits_some c.args.apart.no_patterns.items value) in
    let others = all_told c.args.apart.others.items value in
    c.in_ok-put_others.ensures dims
    ∙ ap (λ b. b && others) (c.in_ok-put_no_patterns.ensures dims ∙ ap (λ b. b && none) (c.in_ok-put_patterns.ensures dims))
    ∙ three_put before each none others
