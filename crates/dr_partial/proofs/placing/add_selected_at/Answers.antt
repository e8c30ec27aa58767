use Rattle.std.proofs.Common.{◌≡◌, ◌∙◌, subst, ◌∷◌, [], rules, FitsSigned, w64, to_z, of_z}
use Rattle.std.proofs.lemmas.Int.{to_z-of_z}
use Rattle.std.proofs.lemmas.Option.{slice_get_within}
use Rattle.dr_ask.specs.Once.{asked_once}
use Rattle.dr_answers.specs.Fold.{folds}
use Rattle.dr_answers.specs.Groups.{bucket}
use Rattle.dr_image.specs.Table.{row_at}
use Rattle.dr_columns.specs.Rows.{key_at}
use Rattle.dr_rollup.specs.Entries.{HasKeyAt}
use Rattle.dr_partial.specs.Known.{group_in}
use Rattle.dr_partial.specs.Partial.{kinds_in, alone}
use Rattle.dr_partial.proofs.Adding.{known-adds}
use Rattle.dr_partial.proofs.ByColumns.{keeps-combined, still-known}
use Rattle.dr_partial.proofs.placing.add_selected_at.Goals as goal

pub returns-in-Some-clause-adds : goal.returns-in-Some-clause-adds
returns-in-Some-clause-adds c =
    let s = c.args.source.now in
    let q = asked_once s.query.now in
    let fits : FitsSigned w64 c.args.bucket = search rules in
    let before = c.args.groups.now in
    let time : to_z w64 (of_z w64 c.args.bucket) ≡ bucket q (key_at s.view.now c.args.i).time = to_z-of_z w64 c.args.bucket fits ∙ c.requires.bucket in
    let found = subst (λ b. HasKeyAt (group_in q s.view.now b c.args.i) before c.in-Some.place) time c.in-Some.ensures in
    known-adds (kinds_in (asked_once s.query.now).aggregations) before c.requires.sound (alone q (row_at s.view.now c.args.i)) c.in-Some.place found c.combine_at.new.groups c.combine_at.ensures

pub returns-in-Some-clause-known : goal.returns-in-Some-clause-known
returns-in-Some-clause-known c =
    let s = c.args.source.now in
    let before = c.args.groups.now in
    let after = c.combine_at.new.groups in
    let found = c.in-Some.ensures in
    still-known (asked_once s.query.now) s.view.now before after c.args.known.now.items
    (keeps-combined (kinds_in (asked_once s.query.now).aggregations) (folds (asked_once s.query.now).aggregations (row_at s.view.now c.args.i ∷ [])) before c.in-Some.place after (slice_get_within before c.in-Some.place found.0 found.1) c.combine_at.ensures)
    c.requires.known

pub note-requires-clause-known : goal.note-requires-clause-known
note-requires-clause-known c =
    let s = c.args.source.now in
    still-known (asked_once s.query.now) s.view.now c.args.groups.now _ c.args.known.now.items c.in_ok-place.ensures.keeps c.requires.known
