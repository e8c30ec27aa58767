-- The image of the rows of a sealed range under a schema, where it isn't too large.
use Rattle.std.specs.Prelude.{ℕ, ℤ, Bool, true, false, nat_le, List, length, Result, Ok, Err, if◌then◌else◌}
use Rattle.dr_base.specs.declared.row.Row.{Row}
use Rattle.dr_schema.specs.declared.schema.Schema.{Schema}
use Rattle.dr_image.specs.declared.image_error.ImageError.{ImageError}
use Rattle.dr_image.specs.declared.image_error.ImageError.TheVariants.{NoMemory, ImageTooLarge}
use Rattle.dr_image.specs.Sealed.{Sealed}
use Rattle.dr_image.specs.Image.{image}

-- the rows of a range of a chunk, under a schema
abbrev pub sealed : Schema → ℤ → ℕ → ℕ → List Row → Sealed
sealed schema chunk from to rows = record {
  rollup = schema.rollup;
  dims = length schema.dimensions;
  metrics = length schema.metrics;
  chunk = chunk;
  from = from;
  to = to;
  rows = rows;
}

-- bytes, or 59 where they are more than a bound
abbrev pub bounded : ℕ → List ℕ → Result (List ℕ) ImageError
bounded most bytes = if nat_le (length bytes) most then Ok bytes else Err ImageTooLarge

-- its image, or 59 where it has more bytes than the schema allows
abbrev pub encoded : ℕ → Sealed → Result (List ℕ) ImageError
encoded most s = if nat_le (length (image s)) most then Ok (image s) else Err ImageTooLarge

-- whether memory ran out
abbrev pub is_memory : ImageError → Bool
is_memory NoMemory = true
is_memory _ = false
