use Rattle.dr_filter.specs.Condition.{condition_in}
use Rattle.dr_select.specs.Rows.{meets}
use Rattle.dr_rowindex.proofs.TellLemmas.{tell-list, tell-same}
use Rattle.dr_select.proofs.choosing.select.Goals as goal

pub returns : goal.returns
returns c =
    tell-list (meets (condition_in c.args.filter.now)) c.args.rows.now c.in_ok-set.set
    (tell-same (meets (condition_in c.asked-asked.result.now)) (meets (condition_in c.args.filter.now)) c.args.rows.now c.in_ok-set.set (λ row. c.asked-asked.ensures row.time row.dims.now) c.in_ok-set.ensures)
