-- A row as it lies: made, or in the columns of an image.
use Rattle.std.specs.Prelude.{◌<◌, length}
use Rattle.dr_base.specs.declared.row.Row.{Row}
use Rattle.dr_image.specs.Table.{row_at}
use Rattle.dr_fragment.specs.declared.row_ref.Lying.{Lying}
use Rattle.dr_fragment.specs.declared.row_ref.Lying.TheVariants as one

-- a row
abbrev pub row_lying : Lying → Row
row_lying (one.Made time dims metrics) = record { key = record { time = time; dims = dims.now }; metrics = metrics.now }
row_lying (one.InImage view i) = row_at view.now i

abbrev pub IsThere : Lying → Type 0
IsThere (one.Made time dims metrics) = Unit {0}
IsThere (one.InImage view i) = i < length view.now.times
