use Rattle.std.proofs.Common.{◌∙◌, sym, ap, false, true≢false, []}
use Rattle.dr_rollup.specs.OpenRows.{in_order}
use Rattle.dr_rollup.proofs.Rows.{sorted-rollup}
use Rattle.dr_fragment.proofs.sorting.sorted.Goals as goal

pub returns : goal.returns
returns c =
    sorted-rollup false [] c.in_ok-rows.rows.items c.sort.new.rows.items (λ h. absurd (true≢false (sym h))) c.in_ok-sort.ensures.sorted c.in_ok-sort.ensures.stable ∙ ap in_order c.in_ok-rows.ensures
