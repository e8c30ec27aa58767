use Rattle.std.proofs.Common.{◌∙◌, ap}
use Rattle.std.specs.List.{flat_map}
use Rattle.dr_chunks.specs.Blocks.{EventList, in_blocks}
use Rattle.dr_chunks.proofs.Pieces.{lent-pieces}
use Rattle.dr_chunks.proofs.stream.Stream.pieces.Goals as goal

pub returns : goal.returns
returns c =
    ap (flat_map (λ p. p.now)) c.in_ok-push.ensures.items
    ∙ lent-pieces c.in_ok-pieces.pieces.items c.self.inside.blocks.items c.as_slice.result (c.in_ok-pieces.ensures ∙ c.deref.ensures.value)
    ∙ ap (in_blocks c.self.inside.blocks.items) c.as_slice.ensures.value
    ∙ ap (λ (l : EventList). l.items) c.self.view_is
