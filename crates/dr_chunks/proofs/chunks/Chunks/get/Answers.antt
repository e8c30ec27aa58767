use Rattle.std.proofs.Common.{◌≡◌, ◌∙◌, ap, Some, None, Option, Bor, refl, w64}
use Rattle.std.proofs.lemmas.Int.{to_z-of_z}
use Rattle.std.specs.Option.{option_map, option_copied}
use Rattle.dr_chunks.specs.declared.chunk.Chunk.{Chunk}
use Rattle.dr_chunks.specs.Held.{chunk_in}
use Rattle.dr_chunks.proofs.Places.{looked-up}
use Rattle.dr_chunks.proofs.chunks.Chunks.get.Goals as goal

seen : (r : Option (Bor Chunk)) → option_map (λ c. c.now) r ≡ option_copied r
seen None = refl
seen (Some b) = refl

pub returns : goal.returns
returns c =
    let value = rw (to_z-of_z w64 c.args.start c.ranges.start) at c.get.ensures.value in
    seen c.get.result ∙ value ∙ looked-up c.args.start c.self.inside.0.entries c.self.invariant c.len-len.ensures.ordered ∙ ap (chunk_in c.args.start) c.self.view_is
