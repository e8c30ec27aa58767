use Rattle.std.proofs.Common.{rules, FitsSigned, w64}
use Rattle.std.proofs.lemmas.Int.{to_z-of_z}
use Rattle.dr_base.specs.declared.row.Row.{Row}
use Rattle.dr_ask.specs.Asked.{dimensions_by}
use Rattle.dr_ask.specs.Once.{asked_once}
use Rattle.dr_answers.specs.Groups.{grouped_values}
use Rattle.dr_partial.specs.Grouped.{folds_alone}
use Rattle.dr_partial.specs.Partial.{kinds_in}
use Rattle.dr_partial.proofs.Adding.{known-adds}
use Rattle.dr_partial.proofs.rows.add_passed.Goals as goal

pub returns-then-is_group_at : goal.returns-then-is_group_at
returns-then-is_group_at c =
    let q = c.args.query.now in
    let fits : FitsSigned w64 c.args.bucket = search rules in
    let g : Row = record { key = record { time = c.args.bucket; dims = grouped_values (dimensions_by (asked_once q).shape) c.args.dims.now }; metrics = folds_alone (asked_once q).aggregations c.args.metrics.now } in
    let at = rw (to_z-of_z w64 c.args.bucket fits, c.dimensions.ensures) at (c.is_group_at.ensures c.if-is_group_at.true) in
    let combines = rw c.distinct-aggregations.ensures at c.combine.ensures in
    known-adds (kinds_in (asked_once q).aggregations) c.args.groups.now c.requires.sound g c.args.last at c.combine.new.groups combines
