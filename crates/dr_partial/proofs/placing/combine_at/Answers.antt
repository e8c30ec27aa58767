use Rattle.std.proofs.Common.{◌∙◌, ap, sym, map, length, slice_set, ◌∷◌, []}
use Rattle.std.proofs.lemmas.List.{length-map}
use Rattle.dr_agg.specs.Combination.{combine_columns}
use Rattle.dr_answers.specs.Fold.{folds}
use Rattle.dr_ask.specs.Once.{asked_once}
use Rattle.dr_image.specs.Table.{row_at}
use Rattle.dr_rollup.proofs.Growing.{set-with}
use Rattle.dr_partial.specs.Known.{folds_read}
use Rattle.dr_partial.specs.Partial.{kinds_in}
use Rattle.dr_partial.proofs.ByColumns.{read-folds}
use Rattle.dr_partial.proofs.Lent.{fit-lent}
use Rattle.dr_partial.proofs.placing.combine_at.Goals as goal

pub combine_read-requires : goal.combine_read-requires
combine_read-requires c =
    let s = c.args.source.now in
    fit-lent (kinds_in (asked_once s.query.now).aggregations) c.args.groups.now c.args.place c.metrics_mut.result.now c.requires.fits c.requires.place c.metrics_mut.ensures.value
    ∙ sym (ap length s.kinds) ∙ length-map s.readings.items (λ r. r.kind) ∙ ap length (sym c.as_slice.ensures.value)

pub returns : goal.returns
returns c = λ g at.
    let s = c.args.source.now in
    let ks = kinds_in (asked_once s.query.now).aggregations in
    let rs = s.readings.items in
    let values = c.metrics_mut.result.now in
    sym (set-with c.args.groups.now c.args.place g c.combine_read.new.values at)
    ∙ ap (λ m. slice_set c.args.groups.now c.args.place (record { key = g.key; metrics = m }))
    (c.combine_read.ensures
    ∙ ap (λ l. combine_columns (map (λ r. r.kind) l) values (folds_read l c.args.i)) c.as_slice.ensures.value
    ∙ (λ j. combine_columns (s.kinds j) values (read-folds s.view.now rs (asked_once s.query.now).aggregations s.kinds s.read (c.args.i ∷ []) j))
    ∙ ap (λ m. combine_columns ks m (folds (asked_once s.query.now).aggregations (row_at s.view.now c.args.i ∷ []))) (c.metrics_mut.ensures.value g at))
