use Rattle.std.proofs.Common.{◌∙◌, sym, ap}
use Rattle.dr_image.specs.Table.{Table}
use Rattle.dr_image.specs.declared.header.Header.{Header}
use Rattle.dr_image.proofs.LayoutLemmas.{from_in, to_in}
use Rattle.dr_image.proofs.segment_view.SegmentView.range.Goals as goal

pub returns-clause-from : goal.returns-clause-from
returns-clause-from c = ap (λ (h : Header). h.from) c.header-header.ensures ∙ sym (from_in c.self.inside.layout.bytes.now) ∙ ap (λ (t : Table). t.from) c.self.view_is

pub returns-clause-to : goal.returns-clause-to
returns-clause-to c = ap (λ (h : Header). h.to) c.header-header.ensures ∙ sym (to_in c.self.inside.layout.bytes.now) ∙ ap (λ (t : Table). t.to) c.self.view_is
