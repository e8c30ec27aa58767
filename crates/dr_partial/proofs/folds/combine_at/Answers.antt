use Rattle.std.proofs.Common.{◌∙◌, ap, sym, slice_set}
use Rattle.dr_agg.specs.Combination.{combine_columns}
use Rattle.dr_rollup.proofs.Growing.{set-with}
use Rattle.dr_partial.specs.Partial.{kinds_in}
use Rattle.dr_partial.proofs.Lent.{fit-lent}
use Rattle.dr_partial.proofs.folds.combine_at.Goals as goal

pub combine_folds-requires-clause-values : goal.combine_folds-requires-clause-values
combine_folds-requires-clause-values c = fit-lent (kinds_in c.args.aggregations.now) c.args.groups.now c.args.place c.metrics_mut.result.now c.requires.fits c.requires.place c.metrics_mut.ensures.value

pub returns : goal.returns
returns c = λ g at.
    let ks = kinds_in c.args.aggregations.now in
    sym (set-with c.args.groups.now c.args.place g c.combine_folds.new.values at)
    ∙ ap (λ m. slice_set c.args.groups.now c.args.place (record { key = g.key; metrics = m }))
    (c.combine_folds.ensures ∙ ap (λ m. combine_columns ks m c.args.folds.now) (c.metrics_mut.ensures.value g at))
