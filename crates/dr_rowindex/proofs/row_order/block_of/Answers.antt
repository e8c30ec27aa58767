use Rattle.std.proofs.Common.{◌∙◌, ◌+◌, ◌<◌, sym, subst, false, get_or, length, replicate, slice_range, arith}
use Rattle.std.proofs.lemmas.List.{get_or_default, length-replicate}
use Rattle.dr_rowindex.specs.Orders.{Put}
use Rattle.dr_rowindex.proofs.RowLemmas.{row-within}
use Rattle.dr_rowindex.proofs.PutLemmas.{next, put-more}
use Rattle.dr_rowindex.proofs.row_order.block_of.Goals as goal

pub insert-requires : goal.insert-requires
insert-requires c =
    let rows = c.args.rows.now in
    let lt : c.loop-k.k < length rows = omega (arith, c.loop-k-test.true, c.requires.within) in
    subst (λ n. get_or rows c.loop-k.k 0 < n) (sym (c.loop-k.invariant.count ∙ length-replicate (length rows) false)) (row-within rows c.requires.all c.loop-k.k 0 lt)

pub loop-k-preserved : goal.loop-k-preserved
loop-k-preserved c =
    let rows = c.args.rows.now in
    let from = c.args.from in
    let k = c.loop-k.k in
    let r = get_or rows k 0 in
    let none = replicate (length rows) false in
    let lt : k < length rows = omega (arith, c.loop-k-test.true, c.requires.within) in
    let row : r < length c.loop-k.set = subst (λ n. r < n) (sym (c.loop-k.invariant.count ∙ length-replicate (length rows) false)) (row-within rows c.requires.all k 0 lt) in
    subst (Put (slice_range rows from (k + 1)) none) (sym c.insert.ensures)
    (put-more (slice_range rows from k) (slice_range rows from (k + 1)) r none c.loop-k.set (next rows from k r c.loop-k.auto.k lt (get_or_default rows k 0 r lt)) row c.loop-k.invariant)
