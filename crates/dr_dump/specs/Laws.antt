-- What a script prints of an image is what spells it.
use Rattle.std.specs.Prelude.{◌≡◌, ℕ, ◌<◌, List, ◌++◌, All, Ok, codes}
use Rattle.hex.specs.Hex.{encode_lower}
use Rattle.dr_image.specs.Opening.{open_of}
use Rattle.dr_image.specs.Table.{Table}
use Rattle.dr_dump.specs.Dump.{dump_of, text_of}

-- the bytes of an image in lower-case hexadecimal, with the newline that ends a line or without it, are told as its columns
abbrev pub PrintedIsTold : Type 0
PrintedIsTold = (bytes : List ℕ) (t : Table) → All (λ b. b < 256) bytes → open_of bytes ≡ Ok t
    → (dump_of (encode_lower bytes) ≡ Ok (text_of t)) × (dump_of (encode_lower bytes ++ codes "\n") ≡ Ok (text_of t))
