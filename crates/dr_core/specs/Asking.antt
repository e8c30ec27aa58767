-- What a query on a snapshot is answered.
use Rattle.std.specs.Prelude.{ℕ, List, Option, Result, Ok, Err, if◌then◌else◌}
use Rattle.dr_ask.specs.Asked.{Asked, is_scan}
use Rattle.dr_answers.specs.Answer.{answer}
use Rattle.dr_answers.specs.declared.answer_error.AnswerError.{AnswerError}
use Rattle.dr_cuts.specs.Segments.{Pinned, rows_of}
use Rattle.dr_timeline.specs.Scanning.{scan_over}
use Rattle.dr_core.specs.declared.core_error.CoreError.{CoreError}
use Rattle.dr_core.specs.declared.core_error.CoreError.TheVariants.{NoSuch}
use Rattle.dr_core.specs.Steps.{given}

-- of a scan the text of its entries, of any other query its answer, over the snapshot's own ranges
abbrev pub answer_over : Asked → Pinned → Result (List ℕ) AnswerError
answer_over q p = if is_scan q.shape then Ok (scan_over q p) else answer q (rows_of p)

-- the snapshot whose events an audit reads; no scan is audited
abbrev pub audited : Asked → Option Pinned → Result Pinned CoreError
audited q p = if is_scan q.shape then Err NoSuch else given p
