use Rattle.std.proofs.Common.{◌∙◌, ◌++◌, ◌∷◌, [], sym, ap, slice_range, arith}
use Rattle.dr_select.proofs.KeyLemmas.{one-last}
use Rattle.dr_scan.proofs.at_once.rows_between.Goals as goal

pub loop-i-preserved : goal.loop-i-preserved
loop-i-preserved c =
    let rows = c.args.rows.now in
    c.in_ok-push.ensures.items ∙ ap (λ l. l ++ c.in_ok-copy.field-0 ∷ []) c.loop-i.invariant
    ∙ ap (λ r. slice_range rows c.args.from c.loop-i.i ++ r ∷ []) c.in_ok-copy.ensures
    ∙ sym (one-last rows c.args.from c.loop-i.i c.row.result c.loop-i.auto.i (omega (arith, c.loop-i-test.true, c.requires.within)) c.row.ensures)
