use Rattle.std.proofs.Common.{◌≡◌, ◌∙◌, sym, ap, subst, false, true, [], ◌∷◌, ◌++◌, ◌+◌, take, drop}
use Rattle.std.specs.List.{AllByRecursion}
use Rattle.std.specs.Ordering.{is_lt}
use Rattle.std.proofs.lemmas.List.{take_more}
use Rattle.dr_base.specs.declared.row.Row.{Row}
use Rattle.dr_base.specs.Order.{key_cmp}
use Rattle.dr_agg.specs.Rollup.{IsInOrder, IsRising, rollup, add_row}
use Rattle.dr_agg.proofs.RollupLaws.{IsRising-rollup, rollup_onto_push}
use Rattle.dr_agg.proofs.Sorting.{behind-rollup, rollup-nil}
use Rattle.dr_merge.proofs.Adding.{split_at}
use Rattle.dr_merge.proofs.combining.combined.Goals as goal

pub add_last-requires-clause-rising : goal.add_last-requires-clause-rising
add_last-requires-clause-rising c = subst IsRising (sym c.loop-row.invariant) (IsRising-rollup c.args.kinds.now (take c.loop-row.row-index c.args.rows.now))

pub add_last-requires-clause-behind : goal.add_last-requires-clause-behind
add_last-requires-clause-behind c =
    let i = c.loop-row.row-index in
    let rows = c.args.rows.now in
    let row : Row = c.row-item.result in
    let split = split_at rows i row c.loop-row-test.true c.row-item.is in
    subst (AllByRecursion (λ (x : Row). is_lt (key_cmp row.key x.key) ≡ false)) (sym c.loop-row.invariant) (behind-rollup c.args.kinds.now (take i rows) row (drop (i + 1) rows) (subst IsInOrder split c.requires))

pub loop-row-preserved : goal.loop-row-preserved
loop-row-preserved c =
    let i = c.loop-row.row-index in
    let rows = c.args.rows.now in
    let row : Row = c.row-item.result in
    let next : take (i + 1) rows ≡ take i rows ++ row ∷ [] = take_more rows i row c.loop-row-test.true ∙ ap (λ (x : Row). take i rows ++ x ∷ []) (sym c.row-item.is) in
    c.in_ok-add_last.ensures ∙ ap (λ rs. add_row true c.args.kinds.now rs row) c.loop-row.invariant ∙ sym (rollup_onto_push true c.args.kinds.now [] (take i rows) row) ∙ ap (rollup true c.args.kinds.now) (sym next)

pub loop-row-init : goal.loop-row-init
loop-row-init c = c.new-combined.ensures.items ∙ sym (rollup-nil c.args.kinds.now)
