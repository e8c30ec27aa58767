use Rattle.std.proofs.Common.{◌∙◌, ap, map, slice_range}
use Rattle.dr_filter.specs.Condition.{condition_in}
use Rattle.dr_select.specs.Rows.{meets}
use Rattle.dr_select.proofs.KeyLemmas.{through-keys}
use Rattle.dr_select.proofs.rows.select_arrived.Goals as goal

pub returns : goal.returns
returns c =
    let condition = condition_in c.args.filter.now in
    c.in_ok-set.ensures ∙ ap (map (meets condition)) c.as_slice.ensures.value ∙ through-keys condition c.in_ok-keys.keys.items (slice_range c.args.rows.now c.args.from c.args.to) c.in_ok-keys.ensures
