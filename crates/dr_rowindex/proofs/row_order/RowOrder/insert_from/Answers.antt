use Rattle.std.proofs.Common.{◌≡◌, ◌∙◌, ◌+◌, ◌-◌, ◌<◌, [], ap, sym, subst, drop, take, length, slice_range, arith}
use Rattle.dr_rowindex.specs.Orders.{Put}
use Rattle.dr_rowindex.proofs.RowLemmas.{row-within}
use Rattle.dr_rowindex.proofs.PutLemmas.{next, put-more, put-none}
use Rattle.dr_rowindex.proofs.row_order.RowOrder.insert_from.Goals as goal

pub insert-requires : goal.insert-requires
insert-requires c =
    let rows = c.self.inside.rows.items in
    let long : length c.args.set.now ≡ length rows = c.requires.rows ∙ ap length (sym c.self.view_is) in
    let lt : c.args.k < length rows = omega (arith, c.requires.some, c.requires.within, ap length c.self.view_is) in
    subst (λ n. c.index.result.now < n) (sym long) (subst (λ r. r < length rows) (sym c.index.ensures) (row-within rows c.self.invariant.0 c.args.k c.index.result.now lt))

pub returns-in-None-clause-put : goal.returns-in-None-clause-put
returns-in-None-clause-put c =
    let rows = c.self.inside.rows.items in
    let k = c.args.k in
    let r = c.index.result.now in
    let long : length c.args.set.now ≡ length rows = c.requires.rows ∙ ap length (sym c.self.view_is) in
    let lt : k < length rows = omega (arith, c.requires.some, c.requires.within, ap length c.self.view_is) in
    let here : r < length c.args.set.now = subst (λ n. r < n) (sym long) (subst (λ r. r < length rows) (sym c.index.ensures) (row-within rows c.self.invariant.0 k r lt)) in
    let z : k - k ≡ 0 = omega arith in
    let none : slice_range rows k k ≡ [] = ap (λ n. take n (drop k rows)) z in
    subst (λ l. Put (slice_range l k (k + 1)) c.args.set.now c.insert.new.self) c.self.view_is
    (subst (Put (slice_range rows k (k + 1)) c.args.set.now) (sym c.insert.ensures)
    (put-more (slice_range rows k k) (slice_range rows k (k + 1)) r c.args.set.now c.args.set.now (next rows k k r (omega arith) lt c.index.ensures) here (put-none c.args.set.now (slice_range rows k k) none)))
