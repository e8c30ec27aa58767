-- The groups that a query gives, from the partial result of the query that asks each dimension and each aggregation once, and the
-- span of all rows.
use Rattle.std.specs.Prelude.{ℤ, nat_lt, length, map, List, Option, Result, Ok, Err, if◌then◌else◌}
use Rattle.dr_base.specs.declared.row.Row.{Row}
use Rattle.dr_ask.specs.Asked.{Asked, AskedShape}
use Rattle.dr_ask.specs.Once.{once}
use Rattle.dr_answers.specs.declared.result_row.ResultRow.{ResultRow}
use Rattle.dr_answers.specs.declared.answer_error.AnswerError.{AnswerError}
use Rattle.dr_answers.specs.declared.answer_error.AnswerError.TheVariants.{ResultTooLarge}
use Rattle.dr_answers.specs.Answer.{given_of}
use Rattle.dr_answers.specs.Given.{given_by}
use Rattle.dr_answers.specs.Groups.{max_groups}
use Rattle.dr_answers.specs.Spread.{spread}
use Rattle.dr_partial.specs.Partial.{groups_from}

-- groups, where there are not too many of them
abbrev pub few_of : List ResultRow → Result (List ResultRow) AnswerError
few_of groups = if nat_lt max_groups (length groups) then Err ResultTooLarge else Ok groups

-- of the groups of a shape those that it gives, where there are not too many of them
abbrev pub few_given : AskedShape → List ResultRow → Result (List ResultRow) AnswerError
few_given shape groups = if nat_lt max_groups (length groups) then Err ResultTooLarge else Ok (given_by shape groups)

abbrev pub finished : Asked → Option (ℤ × ℤ) → List Row → Result (List ResultRow) AnswerError
finished q span partial = given_of q (map (spread q) (groups_from (once q) span partial))
