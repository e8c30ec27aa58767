-- The 48 bytes in front of an image, by their numbers. No public contract cites this file.
use Rattle.std.specs.Prelude.{ℕ, ◌++◌, Bool, List, if◌then◌else◌}
use Rattle.std.specs.Int.{w16, w64, to_le_bytes}
use Rattle.dr_image.specs.Words.{four_bytes, eight_bytes}
use Rattle.dr_image.specs.Image.{magic}
use Rattle.dr_segment.specs.declared.head.Head.{Head}

abbrev pub mark_of : Bool → ℕ
mark_of rollup = if rollup then 1 else 0

unfoldable pub two_bytes : ℕ → List ℕ
two_bytes n = to_le_bytes w16 n

unfoldable pub wide_bytes : ℕ → List ℕ
wide_bytes n = to_le_bytes w64 n

abbrev pub head_bytes : Head → List ℕ
head_bytes h =
    four_bytes magic ++ (two_bytes 1 ++ (two_bytes (mark_of h.rollup) ++ (wide_bytes h.size
    ++ (eight_bytes h.chunk ++ (wide_bytes h.from ++ (wide_bytes h.to ++ (two_bytes h.dims ++ (two_bytes h.metrics ++ four_bytes h.rows))))))))
