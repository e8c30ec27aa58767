use Rattle.std.proofs.Common.{◌∙◌, ap}
use Rattle.dr_filter.specs.Condition.{conditions_in, every_matches}
use Rattle.dr_filter.proofs.EveryMember.{every-behind}
use Rattle.dr_filter.proofs.members.put_filters.Goals as goal

pub returns : goal.returns
returns c = λ time dims. ap (λ l. every_matches time dims (conditions_in l)) c.in_ok-append.ensures.items ∙ every-behind time dims c.args.members.now.items c.args.filters.items
