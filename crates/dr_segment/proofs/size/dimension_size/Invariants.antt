use Rattle.std.proofs.Common.{◌≡◌, ◌+◌, ◌*◌, length, map, take, min}
use Rattle.dr_image.specs.Image.{joined}
use Rattle.dr_segment.proofs.size.dimension_size.Given as goal

abbrev pub invariant-loop-text : goal.invariant-loop-text
invariant-loop-text l = l.size ≡ min (8 + 8 * length l.dimension.dictionary.items + 8 * length l.dimension.numbers.items + length (joined (map (λ t. t.now) (take l.text-index l.dimension.dictionary.items)))) 18446744073709551615
