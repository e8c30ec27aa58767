use Rattle.std.proofs.Common.{◌∙◌, sym, [], ◌∷◌, ◌++◌, ◌<◌, length, arith}
use Rattle.dr_fragment.proofs.SameRows.{one_more_taken}
use Rattle.dr_fragment.proofs.lying_rows.are_equal.Goals as goal

pub loop-i-preserved : goal.loop-i-preserved
loop-i-preserved c =
    let test = c.loop-i-test.true in
    let all = c.len-count.ensures in
    let others = c.len.ensures in
    let few = c.if-len-count.false in
    let lt : c.loop-i.i < length c.args.rows.now = omega arith in
    let within : c.loop-i.i < length c.args.others.now = omega arith in
    let same = c.equals.ensures.0 c.if-not-equals.false in
    one_more_taken c.args.rows.now c.loop-i.i c.row.result lt c.row.ensures
    ∙ (λ i. c.loop-i.invariant i ++ same i ∷ [])
    ∙ sym (one_more_taken c.args.others.now c.loop-i.i c.row-in-loop-i.result within c.row-in-loop-i.ensures)
