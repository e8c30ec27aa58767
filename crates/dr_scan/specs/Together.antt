-- Rows of several segments of which a filter is asked together. No public contract cites this file.
use Rattle.std.specs.Prelude.{◌≡◌, ℕ, Bool, false, List, map, filter, drop}
use Rattle.std.specs.List.{AllByRecursion}
use Rattle.dr_base.specs.declared.row.Row.{Row}
use Rattle.dr_time.specs.Union.{union_holds}
use Rattle.dr_answers.specs.Selection.{passes}
use Rattle.dr_ask.specs.Asked.{Asked}

-- the rows whose times lie in a query's intervals
abbrev pub held : Asked → List Row → List Row
held q rows = filter (λ r. union_holds q.intervals r.key.time) rows

-- no interval holds the time of any of these
abbrev pub AreApart : Asked → List Row → Type 0
AreApart q rows = AllByRecursion (λ r. union_holds q.intervals r.key.time ≡ false) rows

-- from a place on it is told of each of these whether it passes the filter
abbrev pub AreLeft : Asked → List Bool → ℕ → List Row → Type 0
AreLeft q passed next rows = drop next passed ≡ map (λ r. passes q.filter r.key) (held q rows)
