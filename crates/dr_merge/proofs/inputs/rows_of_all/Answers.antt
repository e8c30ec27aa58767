use Rattle.std.proofs.Common.{◌∙◌, sym, ap, ◌++◌}
use Rattle.dr_merge.proofs.Works.{all_rows_more}
use Rattle.dr_merge.proofs.inputs.rows_of_all.Goals as goal

pub loop-input-preserved : goal.loop-input-preserved
loop-input-preserved c =
    c.in_ok-push_rows.ensures ∙ ap (λ rs. rs ++ c.input-item.result) c.loop-input.invariant ∙ sym (all_rows_more c.args.inputs.now c.loop-input.input-index c.input-item.result c.loop-input-test.true c.input-item.is)
