-- The groups of the rows of ranges.
use Rattle.std.specs.Prelude.{◌≡◌, List, map}
use Rattle.std.specs.List.{All, AllByRecursion}
use Rattle.dr_base.specs.declared.row.Row.{Row}
use Rattle.dr_agg.specs.Rollup.{all_rows}
use Rattle.dr_ask.specs.declared.query.Query.{Query}
use Rattle.dr_ask.specs.Once.{asked_once}
use Rattle.dr_fragment.specs.declared.fragment.Fragment.{Fragment}
use Rattle.dr_intervals.specs.Printable.{StartsPrintable}
use Rattle.dr_partial.specs.Partial.{partial}
use Rattle.dr_time.specs.Printed.{IsPrintable}

-- the rows of ranges, one after another
abbrev pub rows_of : List Fragment → List Row
rows_of fragments = all_rows (map (λ f. f.rows) fragments)

-- the starts of the buckets have a text, where those of the query's intervals have one
abbrev pub ArePrintable : Query → List Row → Type 0
ArePrintable q groups = All StartsPrintable q.intervals → AllByRecursion (λ g. IsPrintable g.key.time) groups

-- the groups of a query over rows
abbrev pub IsFoldOf : Query → List Row → List Row → Type 0
IsFoldOf q rows groups = (groups ≡ partial (asked_once q) rows) × ArePrintable q groups
