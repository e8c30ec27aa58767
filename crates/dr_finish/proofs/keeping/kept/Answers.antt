use Rattle.std.proofs.Common.{◌∙◌, sym, ap, filter, map}
use Rattle.std.specs.Prelude.{option_map}
use Rattle.dr_having.specs.Condition.{condition_in}
use Rattle.dr_answers.specs.Given.{is_kept}
use Rattle.dr_finish.specs.Meeting.{row_meets}
use Rattle.dr_finish.specs.RowOrder.{spread_row}
use Rattle.dr_finish.proofs.Kept.{all-kept, asked-kept, kept-same}
use Rattle.dr_finish.proofs.keeping.kept.Goals as goal

pub returns-in-None : goal.returns-in-None
returns-in-None c =
    let by = c.args.by.now in
    all-kept by.dimensions c.args.aggregations.now c.args.groups.items ∙ ap (λ h. filter (λ g. is_kept (option_map condition_in h) (spread_row by.dimensions c.args.aggregations.now g)) c.args.groups.items) (sym c.in-None.is)

pub returns-in_ok-met-in-Some : goal.returns-in_ok-met-in-Some
returns-in_ok-met-in-Some c =
    let by = c.args.by.now in
    let aggregations = c.args.aggregations.now in
    let asked = c.in_ok-asked-in-Some.asked in
    let told = c.as_slice-in-Some.ensures.value ∙ c.in_ok-met-in-Some.ensures ∙ ap (map (row_meets asked by.dimensions aggregations)) c.as_slice.ensures.value in
    kept-same (λ v. v.items) c.kept_where.result _ _
    (asked-kept by.dimensions aggregations asked (condition_in c.in-Some.having) c.numbers.result.now c.args.groups.items c.numbers.ensures c.in_ok-asked-in-Some.ensures
    ∙ ap (λ h. filter (λ g. is_kept (option_map condition_in h) (spread_row by.dimensions aggregations g)) c.args.groups.items) (sym c.in-Some.is))
    (c.kept_where.ensures (row_meets asked by.dimensions aggregations) told)
