-- Rows that wait, to be added to groups together with others. No public contract cites this file.
use Rattle.std.specs.Prelude.{◌≡◌, false, List, ◌++◌}
use Rattle.std.specs.List.{AllByRecursion}
use Rattle.dr_base.specs.declared.row.Row.{Row}
use Rattle.dr_time.specs.Instant.{IsInstant}
use Rattle.dr_time.specs.Union.{union_holds}
use Rattle.dr_ask.specs.declared.query.Query.{Query}
use Rattle.dr_ask.specs.Once.{asked_once}
use Rattle.dr_answers.specs.Selection.{selected}
use Rattle.dr_workers.specs.Shared.{IsFoldOf}

-- the times of rows have a text
abbrev pub AreInstants : List Row → Type 0
AreInstants rows = AllByRecursion (λ r. IsInstant r.key.time) rows

-- no interval of a query holds the time of any of these rows
abbrev pub AreApart : Query → List Row → Type 0
AreApart q rows = AllByRecursion (λ r. union_holds q.intervals r.key.time ≡ false) rows

-- behind rows, all of some more that a query selects
pub record ArePut (q : Query) (before rows after : List Row) : Type 0 where
  pub same : selected (asked_once q) after ≡ selected (asked_once q) (before ++ rows)
  pub instants : AreInstants before → AreInstants rows → AreInstants after

-- groups of rows that were added, and behind these rows that wait: together all that a query selects of some rows
pub record AreGathered (q : Query) (rows groups waiting : List Row) : Type 0 where
  pub added : List Row
  pub fold : IsFoldOf q added groups
  pub instants : AreInstants waiting
  pub same : selected (asked_once q) (added ++ waiting) ≡ selected (asked_once q) rows

-- groups and rows that wait, of some rows
abbrev pub IsGathering : Query → List Row → List Row → Type 0
IsGathering q groups waiting = (rows : List Row) × AreGathered q rows groups waiting
