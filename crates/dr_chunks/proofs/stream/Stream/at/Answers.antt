use Rattle.std.proofs.Common.{◌∙◌, sym, ap, subst, ◌<◌, ◌≤◌, ◌/◌, ◌%◌, length, get_or, slice_get, Some, List, arith}
use Rattle.dr_base.specs.declared.event.Event.{Event}
use Rattle.dr_chunks.specs.Blocks.{EventList, in_blocks}
use Rattle.dr_chunks.proofs.Blocks.{read-block, within-last, read-last}
use Rattle.dr_chunks.proofs.stream.Stream.at.Goals as goal

pub returns-then-block-len : goal.returns-then-block-len
returns-then-block-len c =
    let s = c.self.inside in
    let x : Event = c.index-as_slice-place.result in
    let lt : c.args.place / 256 < length s.blocks.items = omega (arith, c.if-block-len.true, c.len.ensures, s.blocks.ok) in
    ap (λ (l : EventList). slice_get l.items c.args.place) (sym c.self.view_is)
    ∙ read-block s.blocks.items s.last.items c.index.result.now x c.args.place c.self.invariant.full lt c.index.ensures (c.index-as_slice-place.is ∙ ap (λ (es : List Event). get_or es (c.args.place % 256) x) c.as_slice.ensures)
    ∙ ap Some (sym c.event.ensures)

pub index-requires-2 : goal.index-requires-2
index-requires-2 c =
    let s = c.self.inside in
    let past : length s.blocks.items ≤ c.args.place / 256 = omega (arith, c.if-block-len.false, c.len.ensures, s.blocks.ok) in
    let lt : c.args.place < length (in_blocks s.blocks.items s.last.items) = subst (λ (l : EventList). c.args.place < length l.items) (sym c.self.view_is) c.requires in
    let here = within-last s.blocks.items s.last.items c.args.place c.self.invariant.full c.self.invariant.short past lt in
    omega (arith, here.1, s.last.ok)

pub returns : goal.returns
returns c =
    let s = c.self.inside in
    let past : length s.blocks.items ≤ c.args.place / 256 = omega (arith, c.if-block-len.false, c.len.ensures, s.blocks.ok) in
    let lt : c.args.place < length (in_blocks s.blocks.items s.last.items) = subst (λ (l : EventList). c.args.place < length l.items) (sym c.self.view_is) c.requires in
    ap (λ (l : EventList). slice_get l.items c.args.place) (sym c.self.view_is)
    ∙ read-last s.blocks.items s.last.items c.index-2.result.now c.args.place c.self.invariant.full c.self.invariant.short past lt c.index-2.ensures
    ∙ ap Some (sym c.event-2.ensures)
