use Rattle.std.proofs.Common.{◌∙◌, ap, not, ◌&&◌}
use Rattle.dr_time.specs.Union.{union_holds}
use Rattle.dr_filter.specs.Condition.{conditions_in, matches, every_matches}
use Rattle.dr_filter.proofs.EveryMember.{every-one-behind}
use Rattle.dr_filter.proofs.members.put_time.Goals as goal

pub returns : goal.returns
returns c = λ time dims.
    let before = every_matches time dims (conditions_in c.args.members.now.items) in
    every-one-behind time dims c.args.members.now.items c.push.new.self.items _ c.in_ok-push.ensures.items
    ∙ ap (λ d. before && matches time dims d) c.of_intervals.ensures
    ∙ ap (λ b. before && b) (c.in_ok-left.ensures time ∙ ap (λ b. union_holds c.args.union.now time && not b) (c.in_ok-some_time.ensures time))
