use Rattle.std.proofs.Common.{◌∙◌, ap, ◌&&◌, not}
use Rattle.dr_predicate.proofs.Dimensions.{all_put}
use Rattle.dr_predicate.specs.Asked.{dimensions_told, is_asked, is_denied, apart_told}
use Rattle.dr_predicate.specs.Match.{some_within, lies_within, value_at}
use Rattle.dr_predicate.proofs.telling.put_joined.Goals as goal

pub returns : goal.returns
returns c = λ dims.
    let value = value_at c.args.place dims in
    let before = dimensions_told dims c.args.tests.now.items in
    let texts = is_asked c.args.joined.texts value in
    let within = lies_within c.args.joined.within value in
    let no_texts = not (is_denied c.args.joined.no_texts value) in
    let no_ranges = not (some_within c.args.joined.no_ranges.items value) in
    let others = apart_told c.args.joined.apart value in
    c.in_ok-put_apart.ensures dims
    ∙ ap (λ b. b && others) (c.in_ok-put_no_ranges.ensures dims)
    ∙ ap (λ b. (b && no_ranges) && others) (c.in_ok-put_no_texts.ensures dims)
    ∙ ap (λ b. ((b && no_texts) && no_ranges) && others) (c.in_ok-put_within.ensures dims)
    ∙ ap (λ b. (((b && within) && no_texts) && no_ranges) && others) (c.in_ok-put_texts.ensures dims)
    ∙ all_put before texts within no_texts no_ranges others
