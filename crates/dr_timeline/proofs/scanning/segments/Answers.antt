use Rattle.std.proofs.Common.{◌≡◌, ◌∙◌, ◌<◌, ◌+◌, sym, ap, subst, pos, false, w64, FitsSigned, rules, length, get_or}
use Rattle.std.proofs.lemmas.Int.{to_z-of_z}
use Rattle.dr_cuts.specs.declared.range_info.RangeInfo.{RangeInfo}
use Rattle.dr_scan.specs.Identified.{Identified}
use Rattle.dr_scan.specs.Identifier.{identifier_of}
use Rattle.dr_timeline.specs.Numbered.{next_place}
use Rattle.dr_timeline.proofs.SegmentNumbers.{number-more, place-below}
use Rattle.dr_timeline.proofs.scanning.segments.Goals as goal

pub loop-i-preserved : goal.loop-i-preserved
loop-i-preserved c =
    let none : RangeInfo = record { chunk = pos 0; from = 0; to = 0; version = 0; rows = 0; sealed = false } in
    let r : RangeInfo = get_or c.args.ranges.now c.loop-i.i none in
    let fits : FitsSigned w64 r.chunk = search rules in
    let place : c.next_place-place.result ≡ next_place c.loop-i.last r.chunk = rw (to_z-of_z w64 r.chunk fits) at c.next_place-place.ensures in
    let name : c.in_ok-identifier.identifier ≡ identifier_of c.args.schema.now r.chunk r.version (next_place c.loop-i.last r.chunk) =
    c.in_ok-identifier.ensures ∙ ap (λ k. identifier_of c.args.schema.now k r.version c.next_place-place.result) (to_z-of_z w64 r.chunk fits) ∙ ap (identifier_of c.args.schema.now r.chunk r.version) place in
    let in_fragments : c.loop-i.i < length c.args.fragments.now = subst (λ n. c.loop-i.i < n) (sym c.requires.each) c.loop-i-test.true in
    let x : Identified = record { identifier = c.in_ok-identifier.identifier; rows = c.index-fragments-i.result.rows } in
    record {
      segments = rw (to_z-of_z w64 r.chunk fits, place)
          (number-more c.args.schema.now c.loop-i.last c.args.ranges.now c.args.fragments.now c.loop-i.i none c.index-fragments-i.result c.loop-i.segments.items c.push.new.self.items _ x c.loop-i-test.true in_fragments
          (λ j. record { identifier = name j; rows = (c.index-fragments-i.is j).rows }) c.in_ok-push.ensures.items c.loop-i.invariant.segments);
      place = subst (λ n. n < c.loop-i.i + 1) (sym place) (place-below c.loop-i.last r.chunk c.loop-i.i c.loop-i.invariant.place);
    }
