use Rattle.std.proofs.Common.{◌∙◌, ap, sym, not, ◌&&◌}
use Rattle.dr_filter.specs.Condition.{condition_in, conditions_in, matches, every_matches}
use Rattle.dr_base.specs.Told.{told}
use Rattle.dr_filter.specs.Parts.{parts_match}
use Rattle.dr_filter.proofs.EveryMember.{every-one-behind, one-part-more}
use Rattle.dr_filter.proofs.parts.Parts.add_other.Goals as goal

pub returns-in_ok-push : goal.returns-in_ok-push
returns-in_ok-push c = λ time dims.
    let p = c.args.self.now in
    let holds = matches time dims (condition_in c.args.filter) in
    one-part-more time dims p _ holds (every-one-behind time dims p.others.items c.push.new.self.items c.args.filter c.in_ok-push.ensures.items)
    ∙ ap (λ h. parts_match time dims p && told h holds) (sym c.if-holds.true)

pub returns-in_ok-push-2 : goal.returns-in_ok-push-2
returns-in_ok-push-2 c = λ time dims.
    let p = c.args.self.now in
    let holds = matches time dims (condition_in c.args.filter) in
    one-part-more time dims p _ (not holds)
    (every-one-behind time dims p.others.items c.push-else-holds.new.self.items _ c.in_ok-push-2.ensures.items
    ∙ ap (λ d. every_matches time dims (conditions_in p.others.items) && matches time dims d) c.in_ok-denied.ensures)
    ∙ ap (λ h. parts_match time dims p && told h holds) (sym c.if-holds.false)
