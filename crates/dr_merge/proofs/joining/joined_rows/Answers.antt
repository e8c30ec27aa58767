use Rattle.std.proofs.Common.{◌≡◌, ◌∙◌, sym, ap, subst, List}
use Rattle.dr_base.specs.declared.row.Row.{Row}
use Rattle.dr_agg.specs.declared.kind.Kind.{Kind}
use Rattle.dr_agg.specs.Rollup.{rollup, all_rows, IsInOrder}
use Rattle.dr_agg.proofs.Sorting.{in_order, rollup-sorted}
use Rattle.dr_schema.specs.Columns.{kinds_of}
use Rattle.dr_merge.proofs.joining.joined_rows.Goals as goal

pub rolled_up-requires : goal.rolled_up-requires
rolled_up-requires c = subst IsInOrder (sym c.deref-3.ensures.value) (in_order c.sort.new.rows.items c.in_ok-sort.ensures.sorted)

pub returns : goal.returns
returns c =
    let kinds : List Kind = kinds_of c.args.schema.now in
    let combines = c.args.schema.now.rollup in
    let kinds_are : c.deref-2.result.now ≡ kinds = c.deref-2.ensures.value ∙ c.in_ok-kinds.ensures in
    let rows : List Row = c.in_ok-rows.rows.items in
    let rows_are = c.in_ok-rows.ensures ∙ ap all_rows (c.deref.ensures.value ∙ c.in_ok-ordered.ensures) in
    c.in_ok-rolled.ensures ∙ (λ i. rollup (c.rollup.ensures i) (kinds_are i) (c.deref-3.ensures.value i))
    ∙ rollup-sorted combines kinds rows c.sort.new.rows.items c.in_ok-sort.ensures.stable ∙ ap (rollup combines kinds) rows_are
