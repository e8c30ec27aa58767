use Rattle.std.proofs.Common.{◌≡◌, ◌++◌, take}
use Rattle.std.specs.List.{flat_map}
use Rattle.dr_image.specs.Words.{eight_bytes}
use Rattle.dr_segment.proofs.writing.put_longs.Given as goal

abbrev pub invariant-loop-long : goal.invariant-loop-long
invariant-loop-long l = l.out.items ≡ l.fn.out.items ++ flat_map eight_bytes (take l.long-index l.longs)
