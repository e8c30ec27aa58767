use Rattle.std.proofs.Common.{◌∙◌, sym, ap, ◌||◌, not, ◌∷◌, []}
use Rattle.std.proofs.lemmas.List.Folds.{list_any-append}
use Rattle.dr_base.proofs.Truths.{or_regroups, or_ends}
use Rattle.dr_predicate.specs.Match.{some_within, lies_within}
use Rattle.dr_predicate.specs.Ranges.{begun, unended, lies_open}
use Rattle.dr_predicate.proofs.Gaps.{outside}
use Rattle.dr_predicate.proofs.joining.put_outside.Goals as goal

pub returns : goal.returns
returns c = λ value.
    let ranges = c.args.ranges.now.items in
    let within = c.args.within in
    let first = c.in_ok-before.field-0 in
    let last = c.behind.result in
    c.in_ok-put_left.ensures value
    ∙ ap (λ l. some_within l value || lies_open last value) c.in_ok-push.ensures.items
    ∙ ap (λ b. b || lies_open last value) (list_any-append (λ b. lies_within b value) ranges (first ∷ []) ∙ or_ends (some_within ranges value) (lies_within first value))
    ∙ (λ k. (some_within ranges value || c.in_ok-before.ensures value k) || c.behind.ensures value k)
    ∙ sym (or_regroups (some_within ranges value) (not (begun value within)) (not (unended value within)))
    ∙ ap (λ b. some_within ranges value || b) (outside (begun value within) (unended value within))
