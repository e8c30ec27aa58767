use Rattle.std.proofs.Common.{◌∙◌, sym, ap, ◌<◌, List, [], ◌∷◌, ◌++◌, length, take, append_assoc, arith}
use Rattle.dr_base.specs.declared.row.Row.{Row}
use Rattle.dr_fragment.proofs.SameRows.{one_more_taken}
use Rattle.dr_merge.proofs.inputs.push_rows.Goals as goal

pub loop-i-preserved : goal.loop-i-preserved
loop-i-preserved c =
    let row : Row = c.row.result in
    let input : List Row = c.args.input.now in
    let test = c.loop-i-test.true in
    let all = c.len-i-end.ensures in
    let lt : c.loop-i.i < length input = omega arith in
    c.in_ok-push.ensures.items ∙ ap (λ rs. rs ++ row ∷ []) c.loop-i.invariant ∙ append_assoc c.args.rows.now.items (take c.loop-i.i input) (row ∷ [])
    ∙ ap (λ rs. c.args.rows.now.items ++ rs) (sym (one_more_taken input c.loop-i.i row lt c.row.ensures))
