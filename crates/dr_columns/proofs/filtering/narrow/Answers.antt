use Rattle.dr_filter.specs.Condition.{condition_in}
use Rattle.dr_columns.specs.Rows.{key_at, meets}
use Rattle.dr_columns.proofs.NarrowLemmas.{same-test}
use Rattle.dr_columns.proofs.filtering.narrow.Goals as goal

pub returns : goal.returns
returns c =
    let t = c.args.view.now in
    same-test (meets t (condition_in c.asked.result.now)) (meets t (condition_in c.args.filter.now)) _ _
    (λ i lt. c.asked.ensures (key_at t i).time (key_at t i).dims) c.in_ok-narrow_asked.ensures
