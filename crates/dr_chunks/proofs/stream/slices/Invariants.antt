use Rattle.std.proofs.Common.{◌≡◌, take, map}
use Rattle.dr_chunks.proofs.stream.slices.Given as goal

abbrev pub invariant-loop-block : goal.invariant-loop-block
invariant-loop-block l = map (λ s. s.now) l.slices.items ≡ take l.block-index l.blocks
