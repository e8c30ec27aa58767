use Rattle.std.proofs.Common.{[]}
use Rattle.dr_agg.proofs.Sorting.{sorted-apart}
use Rattle.dr_partial.proofs.partial.Partial.into_rows.Goals as goal

pub returns : goal.returns
returns c =
    let stable = rw c.into_rows-rows.ensures at c.in_ok-sort_rows.ensures.stable in
    rw (← c.self.view_is) (sorted-apart [] c.self.inside.groups c.sort_rows.new.rows.items c.in_ok-sort_rows.ensures.sorted stable)
