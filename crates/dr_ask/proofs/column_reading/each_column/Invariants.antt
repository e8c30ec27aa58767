use Rattle.std.proofs.Common.{◌≡◌, map, take}
use Rattle.dr_ask.specs.ColumnsOf.{column_named}
use Rattle.dr_ask.proofs.column_reading.each_column.Given as goal

abbrev pub invariant-loop-name : goal.invariant-loop-name
invariant-loop-name l = l.columns ≡ map (column_named l.schema) (take l.name-index l.names)
