use Rattle.std.proofs.Common.{◌∙◌, ap, sym, not, ◌&&◌}
use Rattle.dr_filter.specs.Condition.{conditions_in, every_matches, some_matches}
use Rattle.dr_base.specs.Told.{told}
use Rattle.dr_filter.specs.Parts.{parts_match}
use Rattle.dr_filter.proofs.EveryMember.{all-hold, none-holds, not-not}
use Rattle.dr_filter.proofs.asking.+asking.Goals as goal

pub add_and-returns-in_ok-add_all : goal.add_and-returns-in_ok-add_all
add_and-returns-in_ok-add_all t c = λ time dims.
    let before = parts_match time dims c.args.parts.now in
    let fs = c.args.filters.now in
    c.in_ok-add_all.ensures time dims ∙ ap (λ b. before && b) (all-hold time dims fs)
    ∙ ap (λ h. before && told h (every_matches time dims (conditions_in fs))) (sym c.if-holds.true)

pub add_and-returns-in_ok-add_nest : goal.add_and-returns-in_ok-add_nest
add_and-returns-in_ok-add_nest t c = λ time dims.
    let before = parts_match time dims c.args.parts.now in
    let fs = c.args.filters.now in
    c.in_ok-add_nest.ensures time dims ∙ ap (λ b. before && not b) (all-hold time dims fs)
    ∙ ap (λ h. before && told h (every_matches time dims (conditions_in fs))) (sym c.if-holds.false)

pub add_or-returns-in_ok-add_nest : goal.add_or-returns-in_ok-add_nest
add_or-returns-in_ok-add_nest t c = λ time dims.
    let before = parts_match time dims c.args.parts.now in
    let fs = c.args.filters.now in
    c.in_ok-add_nest.ensures time dims ∙ ap (λ b. before && not b) (none-holds time dims fs)
    ∙ ap (λ b. before && b) (not-not (some_matches time dims (conditions_in fs)))
    ∙ ap (λ h. before && told h (some_matches time dims (conditions_in fs))) (sym c.if-holds.true)

pub add_or-returns-in_ok-add_all : goal.add_or-returns-in_ok-add_all
add_or-returns-in_ok-add_all t c = λ time dims.
    let before = parts_match time dims c.args.parts.now in
    let fs = c.args.filters.now in
    c.in_ok-add_all.ensures time dims ∙ ap (λ b. before && b) (none-holds time dims fs)
    ∙ ap (λ h. before && told h (some_matches time dims (conditions_in fs))) (sym c.if-holds.false)
