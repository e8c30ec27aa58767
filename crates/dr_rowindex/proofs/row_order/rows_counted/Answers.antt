use Rattle.std.proofs.Common.{◌≡◌, ◌∙◌, ◌+◌, ◌++◌, ◌∷◌, [], suc, ap, sym, arith}
use Rattle.std.specs.List.{range_with_len}
use Rattle.dr_rowindex.proofs.RowLemmas.{one-counted}
use Rattle.dr_rowindex.proofs.row_order.rows_counted.Goals as goal

pub loop-row-preserved : goal.loop-row-preserved
loop-row-preserved c =
    let n = c.loop-row.row in
    let more : suc n ≡ n + 1 = omega arith in
    let none : n ≡ 0 + n = omega arith in
    c.in_ok-push.ensures.items ∙ ap (λ l. l ++ n ∷ []) c.loop-row.invariant ∙ ap (λ r. range_with_len 0 n ++ r ∷ []) none ∙ sym (one-counted 0 n) ∙ ap (range_with_len 0) more
