use Rattle.std.proofs.Common.{◌≡◌, ◌∙◌, sym, ap, map, ◌+◌, ◌++◌, List}
use Rattle.std.specs.List.{flat_map}
use Rattle.dr_base.specs.declared.event.Event.{Event}
use Rattle.dr_chunks.specs.Held.{cut_of, infos_of_chunk, fragments_of_chunk}
use Rattle.dr_fragment.specs.declared.fragment.Fragment.{Fragment}
use Rattle.dr_cuts.specs.Segments.{infos, pinned}
use Rattle.dr_timeline.proofs.Pinning.{rows_of_range, infos-chunks, rows-chunks, are-cuts}
use Rattle.dr_timeline.proofs.timeline.Timeline.pin.Goals as goal

pub invariant_of-result : goal.invariant_of-result
invariant_of-result c =
    let i = c.self.invariant in
    let t = c.self.inside in
    let es : List Event = t.stream.items in
    let schema : c.in_ok-copy.field-0 ≡ t.spec = c.in_ok-copy.ensures ∙ c.schema.ensures.value in
    let stream : c.in_ok-share.field-0.items ≡ es = c.in_ok-share.ensures in
    let held : c.pin.new.pinned ≡ flat_map fragments_of_chunk t.chunks = c.in_ok-pin.ensures.pinned ∙ ap (λ fs. fs ++ flat_map fragments_of_chunk t.chunks) c.new-fragments.ensures in
    let ranges : c.pin.new.ranges.items ≡ infos t.spec es (map cut_of t.chunks) = c.in_ok-pin.ensures.ranges ∙ ap (λ rs. rs ++ flat_map infos_of_chunk t.chunks) c.new-ranges.ensures.items ∙ infos-chunks t.spec es t.chunks i.each in
    rw (schema, stream) (record {
      formed = i.formed;
      fit = i.fit;
      cuts = map cut_of t.chunks;
      are_cuts = are-cuts t.spec es t.chunks i.starts i.each;
      ranges_are = ranges;
      rows = ap (map (λ (f : Fragment). f.rows)) held ∙ rows-chunks t.spec es t.chunks i.each ∙ ap (map (rows_of_range t.spec es)) (sym ranges);
    })

pub returns-clause-pinned : goal.returns-clause-pinned
returns-clause-pinned c =
    let i = c.self.invariant in
    let t = c.self.inside in
    let es : List Event = t.stream.items in
    let schema : c.in_ok-copy.field-0 ≡ t.spec = c.in_ok-copy.ensures ∙ c.schema.ensures.value in
    let stream : c.in_ok-share.field-0.items ≡ es = c.in_ok-share.ensures in
    let ranges : c.pin.new.ranges.items ≡ infos t.spec es (map cut_of t.chunks) = c.in_ok-pin.ensures.ranges ∙ ap (λ rs. rs ++ flat_map infos_of_chunk t.chunks) c.new-ranges.ensures.items ∙ infos-chunks t.spec es t.chunks i.each in
    let shown : record { schema = c.in_ok-copy.field-0; stream = c.in_ok-share.field-0.items; ranges = c.pin.new.ranges.items } ≡ pinned (record { schema = t.spec; stream = es; cuts = map cut_of t.chunks; serials = t.seals + t.commits; commits = t.commits; unparseable = t.unparseable; thrown_away = t.thrown_away }) =
    λ j. record { schema = schema j; stream = stream j; ranges = ranges j } in
    shown ∙ ap pinned c.self.view_is
