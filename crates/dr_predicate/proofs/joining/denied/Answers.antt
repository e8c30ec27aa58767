use Rattle.std.proofs.Common.{◌∙◌, ap, ◌&&◌, not}
use Rattle.dr_predicate.proofs.Dimensions.{limits-moved}
use Rattle.dr_predicate.specs.Asked.{is_denied, apart_told}
use Rattle.dr_predicate.specs.Match.{some_within, lies_within}
use Rattle.dr_predicate.proofs.joining.denied.Goals as goal

pub returns : goal.returns
returns c = λ value.
    let others = apart_told c.args.apart value in
    let within = lies_within c.args.within value in
    let denied = is_denied c.args.no_texts value in
    let ranges = some_within c.args.no_ranges.items value in
    (λ k. ((c.every_text.ensures value k && not (is_denied c.in_ok-no_texts.no_texts value)) && not (some_within c.texts_apart.new.ranges.items value)) && others)
    ∙ ap (λ b. b && others) (c.in_ok-no_texts.ensures value ∙ ap (λ r. not denied && not r) (c.in_ok-put_outside.ensures value) ∙ limits-moved within denied ranges)
