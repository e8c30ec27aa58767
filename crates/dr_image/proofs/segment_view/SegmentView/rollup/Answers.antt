use Rattle.std.proofs.Common.{◌∙◌, sym, ap}
use Rattle.dr_image.specs.Table.{Table}
use Rattle.dr_image.specs.declared.header.Header.{Header}
use Rattle.dr_image.proofs.LayoutLemmas.{rollup_in}
use Rattle.dr_image.proofs.segment_view.SegmentView.rollup.Goals as goal

pub returns : goal.returns
returns c = ap (λ (h : Header). h.rollup) c.header.ensures ∙ sym (rollup_in c.self.inside.layout.bytes.now) ∙ ap (λ (t : Table). t.rollup) c.self.view_is
