use Rattle.std.proofs.Common.{◌≡◌, ◌++◌, take, map}
use Rattle.dr_chunks.specs.Held.{info_of}
use Rattle.dr_chunks.proofs.sealed_ranges.SealedRanges.pin.Given as goal

abbrev pub invariant-loop-range : goal.invariant-loop-range
invariant-loop-range l = (l.pinned ≡ l.initial.pinned ++ map (λ s. s.fragment) (take l.range-index l.self)) × (l.ranges.items ≡ l.initial.ranges.items ++ map info_of (take l.range-index l.self))
