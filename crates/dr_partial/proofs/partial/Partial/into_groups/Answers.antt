use Rattle.std.proofs.Common.{◌∙◌, sym, ap, [], false}
use Rattle.dr_agg.specs.Rollup.{rows_at}
use Rattle.dr_agg.proofs.RollupLaws.{IsRollup-rollup}
use Rattle.dr_partial.proofs.partial.Partial.into_groups.Goals as goal

pub returns-clause-same : goal.returns-clause-same
returns-clause-same c = λ k.
    let groups = c.self.inside.groups in
    rw (← c.self.view_is) (ap (rows_at k) c.into_rows.ensures ∙ sym ((IsRollup-rollup false [] groups).each k))

pub returns-clause-order : goal.returns-clause-order
returns-clause-order c = rw (← c.self.view_is) (IsRollup-rollup false [] c.self.inside.groups).ordered
