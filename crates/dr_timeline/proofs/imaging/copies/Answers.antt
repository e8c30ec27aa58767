use Rattle.std.proofs.Common.{◌∙◌, sym, [], ◌∷◌, ◌++◌, ◌<◌, length, arith}
use Rattle.dr_fragment.proofs.SameRows.{one_more_taken}
use Rattle.dr_timeline.proofs.imaging.copies.Goals as goal

pub loop-i-preserved : goal.loop-i-preserved
loop-i-preserved c =
    let test = c.loop-i-test.true in
    let all = c.len-i-end.ensures in
    let lt : c.loop-i.i < length c.args.rows.now = omega arith in
    c.in_ok-push.ensures.items ∙ (λ i. c.loop-i.invariant i ++ c.in_ok-copy.ensures i ∷ []) ∙ sym (one_more_taken c.args.rows.now c.loop-i.i c.row.result lt c.row.ensures)
