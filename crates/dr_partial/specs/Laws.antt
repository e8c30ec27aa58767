-- What is put together row by row are the groups of a query.
use Rattle.std.specs.Prelude.{◌≡◌, List}
use Rattle.dr_base.specs.declared.row.Row.{Row}
use Rattle.dr_ask.specs.Asked.{Asked}
use Rattle.dr_answers.specs.Groups.{groups}
use Rattle.dr_answers.specs.Span.{span}
use Rattle.dr_partial.specs.Partial.{partial, groups_from}

-- the groups of a query over rows are those that its partial result over them and their span give
abbrev pub GroupsFromPartial : Type 0
GroupsFromPartial = (q : Asked) (rows : List Row) → groups q rows ≡ groups_from q (span rows) (partial q rows)
