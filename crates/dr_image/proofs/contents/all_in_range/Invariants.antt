use Rattle.std.proofs.Common.{◌≡◌, map, drop}
use Rattle.std.specs.List.{list_all}
use Rattle.dr_image.specs.Words.{long}
use Rattle.dr_time.specs.Instant.{is_instant}
use Rattle.dr_image.proofs.contents.all_in_range.Given as goal

abbrev pub invariant-loop-cell : goal.invariant-loop-cell
invariant-loop-cell l = list_all is_instant (map long (drop l.cell-index l.times)) ≡ list_all is_instant (map long l.times)
