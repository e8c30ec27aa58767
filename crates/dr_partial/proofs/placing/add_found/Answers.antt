use Rattle.std.proofs.Common.{◌≡◌, ◌∙◌, sym, refl, ap, subst, ◌∷◌, [], length, rules, FitsSigned, w64, to_z, of_z}
use Rattle.std.proofs.lemmas.Int.{to_z-of_z}
use Rattle.std.proofs.lemmas.Option.{slice_get_within}
use Rattle.dr_base.specs.declared.key.Key.{Key}
use Rattle.dr_base.specs.declared.row.Row.{Row}
use Rattle.dr_ask.specs.Once.{asked_once}
use Rattle.dr_answers.specs.Fold.{folds}
use Rattle.dr_answers.specs.Groups.{grouped_values}
use Rattle.dr_image.specs.Table.{row_at}
use Rattle.dr_columns.specs.Rows.{key_at}
use Rattle.dr_rollup.specs.Entries.{HasKeyAt}
use Rattle.dr_partial.specs.Grouped.{Adds}
use Rattle.dr_partial.specs.Known.{group_in, KeepsKeys}
use Rattle.dr_partial.specs.Partial.{kinds_in}
use Rattle.dr_partial.proofs.Adding.{known-adds, new-adds}
use Rattle.dr_partial.proofs.ByColumns.{fits-folds, keeps-combined, keeps-pushed, last-pushed}
use Rattle.dr_partial.proofs.placing.add_found.Goals as goal
use Rattle.dr_partial.proofs.placing.add_found.Goals.{After-as_slice}

same_key : (c : After-as_slice) → ◌≡◌ {A = Key} (record { time = to_z w64 (of_z w64 c.args.bucket); dims = c.as_slice.result.now }) (group_in (asked_once c.args.source.now.query.now) c.args.source.now.view.now c.args.bucket c.args.i)
same_key c =
    let fits : FitsSigned w64 c.args.bucket = search rules in
    let dims = c.as_slice.ensures.value ∙ c.in_ok-read_group.ensures ∙ ap (λ ds. grouped_values ds (key_at c.args.source.now.view.now c.args.i).dims) c.dimensions.ensures in
    λ j. record { time = to_z-of_z w64 c.args.bucket fits j; dims = dims j }

-- ---- a known group

pub returns-in-Some-clause-adds : goal.returns-in-Some-clause-adds
returns-in-Some-clause-adds c =
    let s = c.args.source.now in
    let k = subst (λ (x : Key). HasKeyAt x c.args.groups.now c.in-Some.place) (same_key (goal.at.returns-in-Some-clause-adds c).After-as_slice) c.in-Some.ensures.found in
    known-adds (kinds_in (asked_once s.query.now).aggregations) c.args.groups.now c.requires.sound
    (record { key = group_in (asked_once s.query.now) s.view.now c.args.bucket c.args.i; metrics = folds (asked_once s.query.now).aggregations (row_at s.view.now c.args.i ∷ []) })
    c.in-Some.place k c.combine_at.new.groups c.combine_at.ensures

pub returns-in-Some-clause-place : goal.returns-in-Some-clause-place
returns-in-Some-clause-place c =
    let s = c.args.source.now in
    let before = c.args.groups.now in
    let found = c.in-Some.ensures.found in
    let k = subst (λ (x : Key). HasKeyAt x before c.in-Some.place) (same_key (goal.at.returns-in-Some-clause-place c).After-as_slice) found in
    keeps-combined (kinds_in (asked_once s.query.now).aggregations) (folds (asked_once s.query.now).aggregations (row_at s.view.now c.args.i ∷ [])) before c.in-Some.place c.combine_at.new.groups
    (slice_get_within before c.in-Some.place found.0 found.1) c.combine_at.ensures _ c.in-Some.place k

pub returns-in-Some-clause-keeps : goal.returns-in-Some-clause-keeps
returns-in-Some-clause-keeps c =
    let s = c.args.source.now in
    let before = c.args.groups.now in
    let found = c.in-Some.ensures.found in
    keeps-combined (kinds_in (asked_once s.query.now).aggregations) (folds (asked_once s.query.now).aggregations (row_at s.view.now c.args.i ∷ [])) before c.in-Some.place c.combine_at.new.groups
    (slice_get_within before c.in-Some.place found.0 found.1) c.combine_at.ensures

-- ---- a new one

pub returns-clause-adds : goal.returns-clause-adds
returns-clause-adds c =
    let s = c.args.source.now in
    let ks = kinds_in (asked_once s.query.now).aggregations in
    let before = c.args.groups.now in
    let values = folds (asked_once s.query.now).aggregations (row_at s.view.now c.args.i ∷ []) in
    let g : Row = record { key = record { time = to_z w64 (of_z w64 c.args.bucket); dims = c.as_slice.result.now }; metrics = values } in
    subst (λ (k : Key). Adds ks before (record { key = k; metrics = values }) c.put_read.new.groups) (same_key (goal.at.returns-clause-adds c).After-as_slice)
    (subst (Adds ks before g) (sym c.in_ok-put_read.ensures) (new-adds ks before c.requires.sound g (c.in_default.ensures.none refl) (fits-folds (asked_once s.query.now).aggregations (row_at s.view.now c.args.i ∷ []))))

pub returns-clause-place : goal.returns-clause-place
returns-clause-place c =
    let s = c.args.source.now in
    let before = c.args.groups.now in
    let after = c.put_read.new.groups in
    let g : Row = record { key = record { time = to_z w64 (of_z w64 c.args.bucket); dims = c.as_slice.result.now }; metrics = folds (asked_once s.query.now).aggregations (row_at s.view.now c.args.i ∷ []) } in
    let last = subst (λ l. HasKeyAt g.key l (length before)) (sym c.in_ok-put_read.ensures) (last-pushed before g) in
    let place : length before ≡ c.len-place.result = sym c.len-place.ensures.len in
    subst (λ (k : Key). HasKeyAt k after c.len-place.result) (same_key (goal.at.returns-clause-place c).After-as_slice) (subst (HasKeyAt g.key after) place last)

pub returns-clause-keeps : goal.returns-clause-keeps
returns-clause-keeps c =
    let before = c.args.groups.now in
    subst (KeepsKeys before) (sym c.in_ok-put_read.ensures) (keeps-pushed before _)
