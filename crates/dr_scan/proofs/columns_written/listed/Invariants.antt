use Rattle.std.proofs.Common.{◌≡◌, ◌++◌, map}
use Rattle.dr_scan.specs.Written.{column_of}
use Rattle.dr_scan.proofs.columns_written.listed.Given as goal

-- with the entries that are left
abbrev pub invariant-loop-name : goal.invariant-loop-name
invariant-loop-name l = l.columns ++ map column_of l.name-iterator ≡ map column_of l.fn.sources.entries
