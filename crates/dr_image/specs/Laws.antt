-- Reading and writing agree: what opens is an image, each image opens, and it has the rows that were written.
use Rattle.std.specs.Prelude.{◌≡◌, ℕ, ◌<◌, ◌≤◌, List, length, All, Ok}
use Rattle.dr_image.specs.Table.{Table, rows_of}
use Rattle.dr_image.specs.Sealed.{Sealed, HasImage}
use Rattle.dr_image.specs.Image.{image, table_of}
use Rattle.dr_image.specs.Opening.{open_of}

-- the sealed range that columns stand for
abbrev pub sealed_by : Table → Sealed
sealed_by t = record { rollup = t.rollup; dims = length t.dims; metrics = length t.metrics; chunk = t.chunk; from = t.from; to = t.to; rows = rows_of t }

-- the bytes are the image of a sealed range that has one
pub record IsImageOf (bytes : List ℕ) (s : Sealed) : Type 0 where
  pub has : HasImage s
  pub few : length bytes ≤ 1073741824
  pub is : bytes ≡ image s

pub record IsImage (bytes : List ℕ) : Type 0 where
  pub sealed : Sealed
  pub is : IsImageOf bytes sealed

-- what opens is the image of what it is opened as
abbrev pub OpenedIsImage : Type 0
OpenedIsImage = (bytes : List ℕ) (t : Table) → All (λ b. b < 256) bytes → open_of bytes ≡ Ok t → IsImageOf bytes (sealed_by t)

-- each image of at most 2^30 bytes opens, as the columns that were written
abbrev pub ImageOpens : Type 0
ImageOpens = (s : Sealed) → HasImage s → length (image s) ≤ 1073741824 → open_of (image s) ≡ Ok (table_of s)

-- these columns stand for the sealed range, its rows among them
abbrev pub ColumnsAreOfRows : Type 0
ColumnsAreOfRows = (s : Sealed) → HasImage s → sealed_by (table_of s) ≡ s

-- two sealed ranges have two images
abbrev pub ImagesDiffer : Type 0
ImagesDiffer = (s r : Sealed) → HasImage s → HasImage r → length (image s) ≤ 1073741824 → image s ≡ image r → s ≡ r
