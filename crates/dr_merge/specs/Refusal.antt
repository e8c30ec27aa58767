-- The numbers and names of the refusals of a job's work.
use Rattle.std.specs.Prelude.{ℕ, List, Bool, true, false, codes}
use Rattle.dr_image.specs.declared.image_error.ImageError.{ImageError}
use Rattle.dr_image.specs.declared.image_error.ImageError.TheVariants as image
use Rattle.dr_merge.specs.declared.merge_error.MergeError.{MergeError}
use Rattle.dr_merge.specs.declared.merge_error.MergeError.TheVariants.{NoMemory, ImageTooLarge}

abbrev pub number_of : MergeError → ℕ
number_of NoMemory = 0
number_of ImageTooLarge = 59

abbrev pub name_of : MergeError → List ℕ
name_of NoMemory = codes "NoMemory"
name_of ImageTooLarge = codes "ImageTooLarge"

-- whether memory ran out
abbrev pub is_memory : MergeError → Bool
is_memory NoMemory = true
is_memory ImageTooLarge = false

-- what it means here that no image was written
abbrev pub not_written : ImageError → MergeError
not_written image.ImageTooLarge = ImageTooLarge
not_written _ = NoMemory
