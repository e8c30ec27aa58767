use Rattle.std.proofs.Common.{◌≡◌, take}
use Rattle.dr_partial.specs.Known.{folds_read}
use Rattle.dr_partial.proofs.placing.values_read.Given as goal

abbrev pub invariant-loop-reading : goal.invariant-loop-reading
invariant-loop-reading l = l.values.items ≡ folds_read (take l.reading-index l.source.readings.items) l.i
