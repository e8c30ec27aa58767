use Rattle.std.proofs.Common.{◌∙◌, sym, ap, map, drop, subst, is_lt}
use Rattle.std.specs.Prelude.{option_map}
use Rattle.std.specs.List.Sorted.{IsStableBy}
use Rattle.std.proofs.lemmas.List.{drop-map}
use Rattle.dr_having.specs.Condition.{condition_in}
use Rattle.dr_ask.specs.Asked.{asked_groups, group_by}
use Rattle.dr_answers.specs.Given.{is_kept, limited, given_by}
use Rattle.dr_finish.specs.RowOrder.{row_cmp, spread_row}
use Rattle.dr_finish.proofs.AnyOrder.{any-order}
use Rattle.dr_finish.proofs.Numbered.{map-limited, rows-spread}
use Rattle.dr_finish.proofs.grouping.given_of.Goals as goal

pub returns : goal.returns
returns c =
    let by = c.args.by.now in
    let limits = by.limit_spec in
    let aggregations = c.args.aggregations.now in
    let sorted = c.in_ok-ordered.ordered.items in
    let group = spread_row by.dimensions aggregations in
    let stable = subst (λ groups. IsStableBy (λ a b. is_lt (row_cmp limits.columns by.dimensions aggregations a b)) groups sorted) c.in_ok-kept.ensures c.in_ok-ordered.ensures.stable in
    let same = any-order limits.columns by.dimensions aggregations (is_kept (option_map condition_in by.having)) c.into_groups-groups.result.items c.args.partial sorted c.into_groups-groups.ensures.same c.into_groups-groups.ensures.order c.in_ok-ordered.ensures.sorted stable in
    c.in_ok-spread.ensures
    ∙ ap (map group) (c.limited-given.ensures ∙ ap (limited limits.limit) c.without_first.ensures)
    ∙ map-limited group limits.limit (drop limits.offset sorted)
    ∙ ap (limited limits.limit) (sym (drop-map group limits.offset sorted) ∙ ap (drop limits.offset) same)
    ∙ ap (λ groups. given_by (group_by (asked_groups by)) groups) (rows-spread by.dimensions aggregations c.args.partial)
