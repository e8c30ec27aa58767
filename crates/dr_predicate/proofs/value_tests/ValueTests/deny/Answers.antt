use Rattle.std.proofs.Common.{◌∙◌, sym, ap, ◌&&◌, not, ◌∷◌, []}
use Rattle.std.proofs.lemmas.List.Folds.{list_any-append}
use Rattle.dr_base.proofs.Truths.{or_ends}
use Rattle.dr_predicate.proofs.Dimensions.{one_more_denied}
use Rattle.dr_predicate.specs.Asked.{is_asked, is_denied, apart_told}
use Rattle.dr_predicate.specs.Match.{some_within, lies_within, passes}
use Rattle.dr_predicate.proofs.value_tests.ValueTests.deny.Goals as goal

pub returns-in_ok-push-in-Within : goal.returns-in_ok-push-in-Within
returns-in_ok-push-in-Within c = λ value.
    let a = c.args.self.now in
    let b = c.in-Within.bounds in
    let texts = is_asked a.texts value in
    let limits = lies_within a.within value && not (is_denied a.no_texts value) in
    let others = apart_told a.apart value in
    let ranges = some_within a.no_ranges.items value in
    let asked = (texts && (limits && not ranges)) && others in
    ap (λ l. (texts && (limits && not (some_within l value))) && others) c.in_ok-push-in-Within.ensures.items
    ∙ ap (λ r. (texts && (limits && not r)) && others) (list_any-append (λ x. lies_within x value) a.no_ranges.items (b ∷ []) ∙ or_ends ranges (lies_within b value))
    ∙ one_more_denied texts limits ranges (lies_within b value) others
    ∙ ap (λ t. asked && not (passes t value)) (sym c.in-Within.is)
