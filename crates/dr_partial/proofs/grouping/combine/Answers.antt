use Rattle.std.proofs.Common.{◌∙◌, ap, sym, slice_set}
use Rattle.dr_agg.specs.Combination.{combine_columns}
use Rattle.dr_rollup.proofs.Growing.{set-with}
use Rattle.dr_partial.specs.Partial.{kinds_in}
use Rattle.dr_partial.specs.Grouped.{folds_alone}
use Rattle.dr_partial.proofs.Lent.{fit-lent}
use Rattle.dr_partial.proofs.grouping.combine.Goals as goal

pub combine_reading-requires : goal.combine_reading-requires
combine_reading-requires c = fit-lent (kinds_in c.args.aggregations.now) c.args.groups.now c.args.place c.metrics_mut.result.now c.requires.fits c.requires.place c.metrics_mut.ensures.value

pub returns : goal.returns
returns c = λ g at.
    let ks = kinds_in c.args.aggregations.now in
    sym (set-with c.args.groups.now c.args.place g c.combine_reading.new.values at)
    ∙ ap (λ m. slice_set c.args.groups.now c.args.place (record { key = g.key; metrics = m }))
    (c.combine_reading.ensures ∙ ap (λ m. combine_columns ks m (folds_alone c.args.aggregations.now c.args.metrics.now)) (c.metrics_mut.ensures.value g at))
