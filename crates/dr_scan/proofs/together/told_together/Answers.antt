use Rattle.std.proofs.Common.{◌∙◌, ap, map}
use Rattle.dr_ask.specs.Asked.{asked}
use Rattle.dr_base.specs.declared.row.Row.{Row}
use Rattle.dr_filter.specs.Condition.{condition_in, matches}
use Rattle.dr_scan.proofs.AskedTogether.{all-left}
use Rattle.dr_scan.proofs.together.told_together.Goals as goal

pub tell_each-requires : goal.tell_each-requires
tell_each-requires c =
    let condition = condition_in c.args.filter.now in
    all-left (asked c.args.query.now) condition c.in_ok-lot.lot.items c.args.segments.now c.in_ok-passed.passed c.requires
    (c.in_ok-passed.ensures ∙ ap (map (λ (r : Row). matches r.key.time r.key.dims condition)) c.as_slice.ensures.value) c.in_ok-lot.ensures
