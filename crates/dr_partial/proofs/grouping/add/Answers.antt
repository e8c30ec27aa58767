use Rattle.std.proofs.Common.{◌≡◌, ◌∙◌, ◌++◌, ◌∷◌, [], refl, sym, ap, subst}
use Rattle.dr_base.specs.declared.row.Row.{Row}
use Rattle.dr_partial.specs.Grouped.{folds_alone, Adds}
use Rattle.dr_partial.specs.Partial.{kinds_in}
use Rattle.dr_partial.proofs.Alone.{fits-alone}
use Rattle.dr_partial.proofs.Adding.{known-adds, new-adds}
use Rattle.dr_partial.proofs.grouping.add.Goals as goal

pub returns-in-Some : goal.returns-in-Some
returns-in-Some c =
    let g : Row = record { key = record { time = c.args.group.now.time; dims = c.args.group.now.dims.now }; metrics = folds_alone c.args.aggregations.now c.args.metrics.now } in
    known-adds (kinds_in c.args.aggregations.now) c.args.groups.now c.requires g c.in-Some.place c.in-Some.ensures.found c.combine.new.groups c.combine.ensures

pub returns : goal.returns
returns c =
    let all = c.args.aggregations.now in
    let key = c.in_ok-key.ensures in
    let values = c.in_ok-values.ensures in
    let g : Row = record { key = record { time = c.args.group.now.time; dims = c.args.group.now.dims.now }; metrics = folds_alone all c.args.metrics.now } in
    let before = c.args.groups.now in
    let same : ◌≡◌ {A = Row} (record { key = c.in_ok-key.key; metrics = c.in_ok-values.values }) g = λ i. record { key = key i; metrics = values i } in
    subst (Adds (kinds_in all) before g) (sym (c.in_ok-put.ensures.ok ∙ ap (λ (x : Row). before ++ x ∷ []) same))
    (new-adds (kinds_in all) before c.requires g (c.in_default.ensures.none refl) (fits-alone all c.args.metrics.now))
