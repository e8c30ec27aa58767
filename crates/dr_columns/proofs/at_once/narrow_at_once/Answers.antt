use Rattle.std.proofs.Common.{◌∙◌, sym, ap, not, length}
use Rattle.std.proofs.lemmas.List.FromFn.{length-map-range_with_len}
use Rattle.dr_filter.specs.Condition.{condition_in}
use Rattle.dr_columns.specs.Rows.{meets}
use Rattle.dr_columns.proofs.AtOnce.{kept}
use Rattle.dr_columns.proofs.at_once.narrow_at_once.Goals as goal

pub drop_where-requires : goal.drop_where-requires
drop_where-requires c = ap length (c.as_slice.ensures.value ∙ c.in_ok-failed.ensures) ∙ length-map-range_with_len (λ i. not (meets c.args.view.now (condition_in c.args.filter.now) i)) 0 (length c.args.view.now.times) ∙ sym c.requires

pub returns : goal.returns
returns c =
    kept (meets c.args.view.now (condition_in c.args.filter.now)) (length c.args.view.now.times) c.as_slice.result.now c.args.told.now c.drop_where.new.told (c.as_slice.ensures.value ∙ c.in_ok-failed.ensures) c.requires c.drop_where.ensures
