use Rattle.std.proofs.Common.{◌∙◌, ap, ◌-◌, map, length, arith}
use Rattle.std.specs.List.{range_with_len}
use Rattle.std.proofs.lemmas.List.{take_all}
use Rattle.dr_agg.specs.Combination.{fold_of}
use Rattle.dr_columns.specs.Read.{read_at}
use Rattle.dr_ask.specs.Once.{asked_once}
use Rattle.dr_partial.proofs.ByColumns.{read-folds}
use Rattle.dr_partial.proofs.whole_runs.folds_between.Goals as goal

pub returns : goal.returns
returns c =
    let s = c.args.source.now in
    let rs = s.readings.items in
    let is = range_with_len c.args.from (c.args.to - c.args.from) in
    c.from_vec.ensures ∙ c.loop-reading.invariant
    ∙ ap (map (λ r. fold_of r.kind (map (read_at r) is))) (take_all c.loop-reading.reading-index rs (omega (arith, c.loop-reading-test.false, ap length c.as_slice-reading-items.ensures.value)))
    ∙ read-folds s.view.now rs (asked_once s.query.now).aggregations s.kinds s.read is
