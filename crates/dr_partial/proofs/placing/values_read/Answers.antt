use Rattle.std.proofs.Common.{◌∙◌, ap, ◌∷◌, [], length, arith}
use Rattle.std.proofs.lemmas.List.{take_all}
use Rattle.dr_ask.specs.Once.{asked_once}
use Rattle.dr_partial.specs.Known.{folds_read}
use Rattle.dr_partial.proofs.ByColumns.{read-folds}
use Rattle.dr_partial.proofs.placing.values_read.Goals as goal

pub returns : goal.returns
returns c =
    let s = c.args.source.now in
    let rs = s.readings.items in
    c.from_vec.ensures ∙ c.loop-reading.invariant
    ∙ ap (λ l. folds_read l c.args.i) (take_all c.loop-reading.reading-index rs (omega (arith, c.loop-reading-test.false, ap length c.as_slice-reading-items.ensures.value)))
    ∙ read-folds s.view.now rs (asked_once s.query.now).aggregations s.kinds s.read (c.args.i ∷ [])
