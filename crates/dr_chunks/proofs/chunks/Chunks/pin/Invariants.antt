use Rattle.std.proofs.Common.{◌≡◌, ◌++◌}
use Rattle.std.specs.List.{flat_map}
use Rattle.std.specs.Map.{values_of}
use Rattle.dr_chunks.specs.Held.{fragments_of_chunk, infos_of_chunk}
use Rattle.dr_chunks.proofs.chunks.Chunks.pin.Given as goal

-- what was pinned, and what is left
abbrev pub invariant-loop-chunk : goal.invariant-loop-chunk
invariant-loop-chunk l = (l.pinned ++ flat_map fragments_of_chunk (values_of l.chunk-iterator) ≡ l.initial.pinned ++ flat_map fragments_of_chunk l.self) × (l.ranges.items ++ flat_map infos_of_chunk (values_of l.chunk-iterator) ≡ l.initial.ranges.items ++ flat_map infos_of_chunk l.self)
