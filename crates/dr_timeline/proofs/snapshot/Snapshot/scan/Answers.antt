use Rattle.std.proofs.Common.{◌≡◌, ◌∙◌, sym, ap, subst, map, List, None}
use Rattle.std.proofs.lemmas.Result.{IfOk-weaker}
use Rattle.std.specs.List.{AllByRecursion}
use Rattle.dr_ask.specs.Asked.{asked}
use Rattle.dr_base.specs.declared.row.Row.{Row}
use Rattle.dr_cuts.specs.Segments.{Pinned}
use Rattle.dr_fragment.specs.declared.fragment.Fragment.{Fragment}
use Rattle.dr_scan.specs.Identified.{Identified}
use Rattle.dr_scan.specs.ScanText.{scanned}
use Rattle.dr_time.specs.Instant.{IsInstant}
use Rattle.dr_timeline.specs.Numbered.{numbered}
use Rattle.dr_timeline.specs.Scanning.{segments_of}
use Rattle.dr_timeline.proofs.ShownSegments.{instants-shown, segments-shown}
use Rattle.dr_timeline.proofs.snapshot.Snapshot.scan.Goals as goal

pub segments-requires-clause-chunks : goal.segments-requires-clause-chunks
segments-requires-clause-chunks c =
    let s = c.self.inside in
    subst (AllByRecursion (λ r. IsInstant r.chunk)) (sym c.as_slice-ranges.ensures.value) (instants-shown s.schema s.stream.items (map (λ (f : Fragment). f.rows) s.fragments) s.ranges.items c.self.invariant)

pub returns : goal.returns
returns c =
    let s = c.self.inside in
    let held : List (List Row) = map (λ (f : Fragment). f.rows) s.fragments in
    let made : c.in_ok-segments.segments.items ≡ numbered s.schema None s.ranges.items held =
    c.in_ok-segments.ensures ∙ (λ j. numbered s.schema None (c.as_slice-ranges.ensures.value j) (map (λ (f : Fragment). f.rows) (c.as_slice.ensures j))) in
    let are : c.deref.result.now ≡ segments_of c.args.self.now =
    c.deref.ensures.value ∙ made ∙ segments-shown s.schema s.stream.items held s.ranges.items c.self.invariant ∙ ap (λ (p : Pinned). segments_of p) c.self.view_is in
    IfOk-weaker c.scan.result _ _ (λ text is. is ∙ ap (λ (segments : List Identified). scanned (asked c.args.query.now) segments) are) c.scan.ensures
