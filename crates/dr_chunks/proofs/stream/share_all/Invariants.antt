use Rattle.std.proofs.Common.{◌≡◌, take}
use Rattle.dr_chunks.proofs.stream.share_all.Given as goal

abbrev pub invariant-loop-block : goal.invariant-loop-block
invariant-loop-block l = l.shares.items ≡ take l.block-index l.blocks
