use Rattle.std.proofs.Common.{◌≡◌, ◌∙◌, sym, ap, ◌+◌, [], ◌∷◌, ◌++◌, take, Some}
use Rattle.std.specs.Prelude.{slice_get}
use Rattle.std.proofs.lemmas.List.{take_more}
use Rattle.dr_events.proofs.MoreNames.{more-then, named-more}
use Rattle.dr_dict.proofs.SortedTexts.{places_pushed}
use Rattle.dr_events.proofs.learning.learn_dimensions.Goals as goal

pub loop-column-preserved : goal.loop-column-preserved
loop-column-preserved c =
    let l = c.loop-column in
    let columns = c.args.columns.now in
    let names = c.add.new.self in
    let more = c.in_ok-place.ensures.kept in
    let before = take l.column-index columns in
    let item = c.column-item.result in
    let taken : take (l.column-index + 1) columns ≡ before ++ item ∷ [] = take_more columns l.column-index item c.loop-column-test.true ∙ ap (λ x. before ++ x ∷ []) (sym c.column-item.is) in
    let kept = named-more l.names names before l.places.items more l.invariant.0 in (
      rw (c.in_ok-push.ensures.items, taken) (places_pushed (λ column place. slice_get names place ≡ Some column) before l.places.items item c.in_ok-place.place kept c.in_ok-place.ensures.place),
      more-then c.args.names.now l.names names l.invariant.1 more,
    )
