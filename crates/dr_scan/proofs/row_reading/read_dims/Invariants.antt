use Rattle.std.proofs.Common.{◌≡◌, take}
use Rattle.dr_scan.proofs.row_reading.read_dims.Given as goal

abbrev pub invariant-loop-d : goal.invariant-loop-d
invariant-loop-d l = l.dims.items ≡ take l.d l.row.key.dims
