use Rattle.std.proofs.Common.{◌≡◌, subst, Some, false, bytes_eq}
use Rattle.std.specs.Prelude.{IfSome, IfNone, slice_get}
use Rattle.std.specs.List.{list_any}
use Rattle.dr_events.proofs.MoreNames.{more-then}
use Rattle.dr_events.proofs.SeenFields.{seen-put, seen-unkept}
use Rattle.dr_events.proofs.line_object.keep.Goals as goal

pub returns-in-Some-clause-seen : goal.returns-in-Some-clause-seen
returns-in-Some-clause-seen c = λ firsts d ms first is all.
    let names = c.place_kept.new.self in
    let behind = more-then firsts c.args.names.now names first c.place_kept.ensures.kept in
    let there = subst (λ o. IfSome o (λ place. slice_get names place ≡ Some c.args.key.now)) c.in-Some.is c.in_ok-place.ensures.some in
    rw c.put.ensures (seen-put firsts names c.args.found.now c.in-Some.place c.args.key.now d c.args.value ms behind c.len.ensures.distinct there is all)

pub returns-in-None-clause-seen : goal.returns-in-None-clause-seen
returns-in-None-clause-seen c = λ firsts d ms first is all.
    let names = c.place_kept.new.self in
    let behind = more-then firsts c.args.names.now names first c.place_kept.ensures.kept in
    let absent = subst (λ o. IfNone o (list_any (bytes_eq c.args.key.now) names ≡ false)) c.in-None.is c.in_ok-place.ensures.none in
    seen-unkept firsts names c.args.found.now c.args.key.now d ms behind absent all
