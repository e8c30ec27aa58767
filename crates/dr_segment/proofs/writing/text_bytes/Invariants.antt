use Rattle.std.proofs.Common.{◌≡◌, ◌%◌, map, take, length}
use Rattle.dr_image.specs.Image.{joined}
use Rattle.dr_segment.proofs.writing.text_bytes.Given as goal

abbrev pub invariant-loop-text : goal.invariant-loop-text
invariant-loop-text l = l.bytes ≡ length (joined (map (λ t. t.now) (take l.text-index l.texts))) % 18446744073709551616
