-- The numbers and names of the refusals of an image.
use Rattle.std.specs.Prelude.{ℕ, List, codes}
use Rattle.dr_image.specs.declared.image_error.ImageError.{ImageError}
use Rattle.dr_image.specs.declared.image_error.ImageError.TheVariants.{NoMemory, Truncated, BadMagic, BadVersion, BadLength, DictOrder, NumberOutOfDict, RowOrder, BadIndex, DigestMismatch, ImageTooLarge}

abbrev pub number_of : ImageError → ℕ
number_of NoMemory = 0
number_of Truncated = 50
number_of BadMagic = 51
number_of BadVersion = 52
number_of BadLength = 53
number_of DictOrder = 54
number_of NumberOutOfDict = 55
number_of RowOrder = 56
number_of BadIndex = 57
number_of DigestMismatch = 58
number_of ImageTooLarge = 59

abbrev pub name_of : ImageError → List ℕ
name_of NoMemory = codes "NoMemory"
name_of Truncated = codes "Truncated"
name_of BadMagic = codes "BadMagic"
name_of BadVersion = codes "BadVersion"
name_of BadLength = codes "BadLength"
name_of DictOrder = codes "DictOrder"
name_of NumberOutOfDict = codes "NumberOutOfDict"
name_of RowOrder = codes "RowOrder"
name_of BadIndex = codes "BadIndex"
name_of DigestMismatch = codes "DigestMismatch"
name_of ImageTooLarge = codes "ImageTooLarge"
