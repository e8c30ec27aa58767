use Rattle.std.proofs.Common.{◌∙◌, sym, ap, rules, FitsSigned}
use Rattle.std.specs.Int.{w64}
use Rattle.std.proofs.lemmas.Int.{to_z-of_z}
use Rattle.dr_image.specs.Table.{Table}
use Rattle.dr_image.specs.declared.header.Header.{Header}
use Rattle.dr_image.proofs.LayoutLemmas.{chunk_in}
use Rattle.dr_image.proofs.segment_view.SegmentView.chunk.Goals as goal

pub returns : goal.returns
returns c =
    let fits : FitsSigned w64 c.header.result.chunk = search rules in
    to_z-of_z w64 c.header.result.chunk fits ∙ ap (λ (h : Header). h.chunk) c.header.ensures ∙ sym (chunk_in c.self.inside.layout.bytes.now) ∙ ap (λ (t : Table). t.chunk) c.self.view_is
