use Rattle.std.proofs.Common.{◌∙◌, sym, ap, [], map, Ok}
use Rattle.dr_ask.specs.Asked.{timeseries}
use Rattle.dr_ask.specs.Once.{asked_once}
use Rattle.dr_answers.specs.Spread.{spread_over}
use Rattle.dr_partial.specs.Partial.{groups_by}
use Rattle.dr_finish.proofs.Numbered.{few-spread}
use Rattle.dr_finish.proofs.series.given_buckets.Goals as goal

pub returns : goal.returns
returns c =
    let groups = groups_by (timeseries c.args.series) (asked_once c.args.query.now) c.args.span c.args.partial in
    let spread = spread_over [] c.args.query.now.aggregations in
    few-spread spread c.args.series groups c.in_ok-buckets.buckets.items c.in_ok-buckets.ensures
    ∙ ap Ok (ap (map spread) (sym c.given_of-given.ensures) ∙ sym c.in_ok-spread.ensures)
