-- The text of an image that a file spells in hexadecimal.
use Rattle.std.specs.Prelude.{ℕ, ℤ, ◌-◌, nat_le, nat_eq, Bool, ◌&&◌, ◌||◌, bytes_eq, List, ◌∷◌, ◌++◌, length, take, drop, map, Result, Ok, Err, codes, decimal, if◌then◌else◌}
use Rattle.std.specs.List.{flat_map, list_all}
use Rattle.std.specs.Fmt.{signed_decimal}
use Rattle.hex.specs.Hex.{decode_of}
use Rattle.hex.specs.declared.error.FromHexError.{FromHexError}
use Rattle.serde_json.specs.Data.{Data, null, number, string, array}
use Rattle.serde_json.specs.Find.{of_integer}
use Rattle.serde_json.specs.View.{items_of}
use Rattle.serde_json.specs.Written.{compact_text}
use Rattle.dr_base.specs.Reading.{◌>>=◌, passed}
use Rattle.dr_base.specs.declared.row.Row.{Row}
use Rattle.dr_image.specs.Opening.{open_of}
use Rattle.dr_image.specs.Table.{Table, rows_of}
use Rattle.dr_dump.specs.declared.dump_error.DumpError.{DumpError}
use Rattle.dr_dump.specs.declared.dump_error.DumpError.TheVariants.{Image, BadCommand}

-- ---- the bytes that a file spells

-- a file without the newline that may end it
abbrev pub line_of : List ℕ → List ℕ
line_of file = if bytes_eq (drop (length file - 1) file) (codes "\n") then take (length file - 1) file else file

-- 0 to 9, a to f
abbrev pub is_lower_digit : ℕ → Bool
is_lower_digit c = (nat_le 48 c && nat_le c 57) || (nat_le 97 c && nat_le c 102)

abbrev pub or_bad_command : {A : Type 0} → Result A FromHexError → Result A DumpError
or_bad_command (Ok x) = Ok x
or_bad_command (Err e) = Err BadCommand

-- pairs of hexadecimal digits, in lower case
unfoldable pub bytes_of : List ℕ → Result (List ℕ) DumpError
bytes_of text = if list_all is_lower_digit text then or_bad_command (decode_of text) else Err BadCommand

-- ---- what is told of an image

abbrev pub kind_of : Bool → List ℕ
kind_of rollup = if rollup then codes "rollup" else codes "plain"

-- `image vN rollup|plain chunk C range FROM TO rows K`
unfoldable pub head_line : Table → List ℕ
head_line t =
    codes "image v1 " ++ kind_of t.rollup
    ++ (codes " chunk " ++ signed_decimal t.chunk)
    ++ (codes " range " ++ decimal t.from)
    ++ (codes " " ++ decimal t.to)
    ++ (codes " rows " ++ decimal (length t.times))
    ++ codes "\n"

abbrev pub whole_number : ℤ → Data
whole_number z = number (of_integer z)

-- the value of a dimension: an empty one is null
abbrev pub dimension_data : List ℕ → Data
dimension_data text = if nat_eq (length text) 0 then null else string text

-- a row as a JSON list (RFC 8259): its time in milliseconds since the epoch, its dimension values, its metrics
unfoldable pub row_data : Row → Data
row_data r = array (items_of (whole_number r.key.time ∷ (map dimension_data r.key.dims ++ map whole_number r.metrics)))

abbrev pub row_line : Row → List ℕ
row_line r = compact_text (row_data r) ++ codes "\n"

-- a line of what it is an image of, and a line for each row
unfoldable pub text_of : Table → List ℕ
text_of t = head_line t ++ flat_map row_line (rows_of t)

-- ---- all of it

-- the text of the image that a file spells, or why it spells none
unfoldable pub dump_of : List ℕ → Result (List ℕ) DumpError
dump_of file = do
  bytes ← bytes_of (line_of file)
  table ← passed Image (open_of bytes)
  Ok (text_of table)
