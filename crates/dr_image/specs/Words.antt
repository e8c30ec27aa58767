-- Numbers of a fixed width in bytes, the lowest byte first (two's complement where they have a sign).
use Rattle.std.specs.Prelude.{ℕ, ℤ, List, map, take, drop}
use Rattle.std.specs.List.{flat_map}
use Rattle.std.specs.Int.{Width, w32, w64, byte_len, from_le_bytes, to_le_bytes, cast_signed, cast_unsigned}
use Rattle.std.specs.Simd.{first_chunks}

-- the number that the bytes at an offset are
unfoldable pub word_at : Width → ℕ → List ℕ → ℕ
word_at w at bytes = from_le_bytes w (take (byte_len w) (drop at bytes))

-- the number that four bytes are, and n of them, one behind the other
unfoldable pub word : List ℕ → ℕ
word cell = from_le_bytes w32 cell

abbrev pub words : ℕ → List ℕ → List ℕ
words n bytes = map word (first_chunks 4 n bytes)

-- the number with a sign that eight bytes are, and n of them
unfoldable pub long : List ℕ → ℤ
long cell = cast_signed w64 (from_le_bytes w64 cell)

abbrev pub longs : ℕ → List ℕ → List ℤ
longs n bytes = map long (first_chunks 8 n bytes)

-- the same, written; of a number that is too large its low bytes
unfoldable pub four_bytes : ℕ → List ℕ
four_bytes n = to_le_bytes w32 n

unfoldable pub eight_bytes : ℤ → List ℕ
eight_bytes z = to_le_bytes w64 (cast_unsigned w64 z)

unfoldable pub spelled_words : List ℕ → List ℕ
spelled_words ns = flat_map four_bytes ns

unfoldable pub spelled_longs : List ℤ → List ℕ
spelled_longs zs = flat_map eight_bytes zs
