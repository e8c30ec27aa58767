use Rattle.std.proofs.Common.{refl, subst}
use Rattle.dr_base.specs.declared.row.Row.{Row}
use Rattle.dr_partial.specs.Grouped.{CombinesAt}
use Rattle.dr_partial.specs.Partial.{kinds_in}
use Rattle.dr_partial.proofs.Adding.{known-adds, put-adds}
use Rattle.dr_partial.proofs.folds.add_folds.Goals as goal

pub returns-in-Some : goal.returns-in-Some
returns-in-Some c =
    let g : Row = record { key = record { time = c.args.group.now.time; dims = c.args.group.now.dims.now }; metrics = c.args.folds } in
    let ks = kinds_in c.args.aggregations.now in
    let after = c.combine_at.new.groups in
    let combines = subst (λ m. CombinesAt ks m c.args.groups.now c.in-Some.place after) c.as_slice.ensures c.combine_at.ensures in
    known-adds ks c.args.groups.now c.requires.sound g c.in-Some.place c.in-Some.ensures.found after combines

pub returns : goal.returns
returns c =
    let key = c.in_ok-key.ensures in
    let g : Row = record { key = record { time = c.args.group.now.time; dims = c.args.group.now.dims.now }; metrics = c.args.folds } in
    put-adds (kinds_in c.args.aggregations.now) c.args.groups.now c.requires.sound g _ c.put.new.self c.put.result
    (λ i. record { key = key i; metrics = c.args.folds })
    (c.in_default.ensures.none refl) c.requires.fits c.put.ensures.ok
