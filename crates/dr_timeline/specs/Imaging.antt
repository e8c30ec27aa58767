-- The image of a sealed range of a timeline.
use Rattle.std.specs.Prelude.{ℕ, ℤ, nat_le, List, Option, Some, None, length, slice_get, Result, Ok, Err, if◌then◌else◌}
use Rattle.dr_schema.specs.declared.schema.Schema.{Schema}
use Rattle.dr_image.specs.declared.image_error.ImageError.{ImageError}
use Rattle.dr_image.specs.declared.image_error.ImageError.TheVariants as no_image
use Rattle.dr_image.specs.Image.{image}
use Rattle.dr_fragment.specs.declared.fragment.Fragment.{Fragment}
use Rattle.dr_merge.specs.Joined.{sealed_fragment}
use Rattle.dr_timeline.specs.declared.timeline_error.TimelineError.{TimelineError}
use Rattle.dr_timeline.specs.declared.timeline_error.TimelineError.TheVariants.{NoMemory, ImageTooLarge, NoSuchRange}
use Rattle.dr_cuts.specs.State.{Range, State, sealed_in}
use Rattle.dr_chunks.specs.Ranges.{fragment_of}

-- the image of a fragment under the schema, or 59 where it has more bytes than the schema allows
abbrev pub image_of : Schema → Fragment → Result (List ℕ) TimelineError
image_of schema f = if nat_le (length (image (sealed_fragment schema f))) schema.limits.max_image_bytes then Ok (image (sealed_fragment schema f)) else Err ImageTooLarge

-- the image of a range of a chunk, where there is one
abbrev pub image_where : State → ℤ → Option Range → Result (List ℕ) TimelineError
image_where s k None = Err NoSuchRange
image_where s k (Some range) = image_of s.schema (fragment_of s.schema s.stream k range)

-- the image of the sealed range of a chunk at a place, from 0
abbrev pub image_at : State → ℤ → ℕ → Result (List ℕ) TimelineError
image_at s k place = image_where s k (slice_get (sealed_in k s.cuts) place)

-- what it means here that no image was written
abbrev pub not_written : ImageError → TimelineError
not_written no_image.ImageTooLarge = ImageTooLarge
not_written _ = NoMemory
