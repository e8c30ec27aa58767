use Rattle.std.proofs.Common.{◌∙◌, ap, not, ◌&&◌}
use Rattle.dr_filter.specs.Condition.{conditions_in, matches, every_matches, opposite}
use Rattle.dr_filter.proofs.EveryMember.{every-one-behind}
use Rattle.dr_filter.proofs.members.put_no_times.Goals as goal

pub returns : goal.returns
returns c = λ time dims.
    let before = every_matches time dims (conditions_in c.args.members.now.items) in
    every-one-behind time dims c.args.members.now.items c.push.new.self.items _ c.in_ok-push.ensures.items
    ∙ ap (λ d. before && matches time dims d) (c.in_ok-denied.ensures ∙ ap opposite c.of_intervals.ensures)
    ∙ ap (λ b. before && not b) (c.in_ok-union.ensures time)
