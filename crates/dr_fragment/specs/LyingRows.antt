-- Rows as they lie.
use Rattle.std.specs.Prelude.{List}
use Rattle.dr_base.specs.declared.row.Row.{Row}
use Rattle.dr_image.specs.Table.{rows_of}
use Rattle.dr_fragment.specs.declared.lying_rows.Place.{Place}
use Rattle.dr_fragment.specs.declared.lying_rows.Place.TheVariants as all

-- rows in order
abbrev pub rows_lying : Place → List Row
rows_lying (all.Lent rows) = rows.now
rows_lying (all.InImage view) = rows_of view
rows_lying (all.Arrived rows) = rows
rows_lying (all.Sorted rows) = rows.items
