use Rattle.std.proofs.Common.{◌≡◌, [], drop}
use Rattle.dr_scan.specs.Written.{with_sources}
use Rattle.dr_scan.proofs.columns_written.by_name.Given as goal

-- with the columns that are left
abbrev pub invariant-loop-column : goal.invariant-loop-column
invariant-loop-column l = with_sources l.sources.entries (drop l.column-index l.columns) ≡ with_sources [] l.columns
