use Rattle.std.proofs.Common.{◌∙◌, ap, ◌&&◌, not}
use Rattle.std.proofs.lemmas.List.Folds.{list_any-append}
use Rattle.dr_predicate.proofs.Dimensions.{one_more_denied}
use Rattle.dr_predicate.specs.Asked.{is_asked, is_denied, apart_told}
use Rattle.dr_predicate.specs.Match.{some_within, lies_within}
use Rattle.dr_predicate.proofs.value_tests.ValueTests.deny_ranges.Goals as goal

pub returns : goal.returns
returns c = λ value.
    let a = c.args.self.now in
    let texts = is_asked a.texts value in
    let limits = lies_within a.within value && not (is_denied a.no_texts value) in
    let others = apart_told a.apart value in
    ap (λ l. (texts && (limits && not (some_within l value))) && others) c.in_ok-append.ensures.items
    ∙ ap (λ r. (texts && (limits && not r)) && others) (list_any-append (λ b. lies_within b value) a.no_ranges.items c.args.ranges.items)
    ∙ one_more_denied texts limits (some_within a.no_ranges.items value) (some_within c.args.ranges.items value) others
