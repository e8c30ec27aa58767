-- What the answers of a script are, in terms of its lines and of what is written for them alone.
use Rattle.std.specs.Prelude.{◌≡◌, ◌⊎◌, ℕ, Bool, true, bytes_eq, List, [], ◌∷◌, ◌++◌, length, take, Option, Some, None, Result, Ok, Err, codes, slice_get, if◌then◌else◌}
use Rattle.dr_base.specs.declared.event.Event.{Event}
use Rattle.dr_schema.specs.declared.schema.Schema.{Schema}
use Rattle.dr_spec.specs.SpecOf.{spec_of}
use Rattle.dr_events.specs.declared.unparseable.Unparseable.{Unparseable}
use Rattle.dr_events.specs.EventOf.{event_of}
use Rattle.dr_answers.specs.declared.answer_error.AnswerError.{AnswerError}
use Rattle.dr_answers.specs.AnswerRefusal as no_answer
use Rattle.dr_ask.specs.Asked.{Asked}
use Rattle.dr_ask.specs.Matching.{is_matching}
use Rattle.dr_ask.specs.QueryOf.{query_of}
use Rattle.dr_cuts.specs.RawAnswer.{raw_answer}
use Rattle.dr_requests.specs.declared.command_error.CommandError.{CommandError}
use Rattle.dr_requests.specs.declared.command_error.CommandError.TheVariants.{BadCommand}
use Rattle.dr_requests.specs.declared.request.Request.{Request}
use Rattle.dr_requests.specs.declared.request.Request.TheVariants.{Add, Pin, Query, At}
use Rattle.dr_script.specs.Commands.{Answered, IsLack, answered, refused, refused_by}
use Rattle.dr_script.specs.Script.{Script, asked_by}

-- the written line begins so
abbrev pub begins : List ℕ → Answered → Bool
begins word a = bytes_eq (take (length word) a.line) word

abbrev pub event_read : Result Event Unparseable → List Event
event_read (Ok e) = e ∷ []
event_read (Err e) = []

-- the event of a line `+ EVENT`
abbrev pub event_asked : Schema → Result (Request (List ℕ)) CommandError → List Event
event_asked schema (Ok (Add text)) = event_read (event_of schema 0 text)
event_asked schema request = []

-- the event of a line `+ EVENT` that was answered `accepted N`
abbrev pub accepted_for : Schema → Result (Request (List ℕ)) CommandError → Answered → List Event
accepted_for schema request a = if begins (codes "accepted ") a then event_asked schema request else []

-- the events that a line `pin` keeps
abbrev pub pin_asked : List Event → Result (Request (List ℕ)) CommandError → List (List Event)
pin_asked es (Ok Pin) = es ∷ []
pin_asked es request = []

-- the same, where it was answered `pin N`: those that were accepted before
abbrev pub pinned_for : List Event → Result (Request (List ℕ)) CommandError → Answered → List (List Event)
pinned_for es request a = if begins (codes "pin ") a then pin_asked es request else []

-- an answer, as it is written
abbrev pub told_answer : Result (List ℕ) AnswerError → Answered
told_answer (Ok text) = answered text
told_answer (Err e) = refused (no_answer.number_of e) (no_answer.name_of e) None

-- what is written for a matching query over these events: the raw answer, or that memory or a thread was lacking; without a snapshot 101
abbrev pub IsRaw : Schema → List ℕ → Option (List Event) → Answered → Type 0
IsRaw schema text None a = (a ≡ refused_by BadCommand) ⊎ IsLack a
IsRaw schema text (Some es) a = (q : Asked) → query_of schema text ≡ Ok q → is_matching q ≡ true → (a ≡ told_answer (raw_answer schema q es)) ⊎ IsLack a

-- a line that asks a query, of the rows as they are or of a snapshot, is answered so
abbrev pub AnswersRaw : Schema → List Event → List (List Event) → Result (Request (List ℕ)) CommandError → Answered → Type 0
AnswersRaw schema es pins (Ok (Query text)) a = IsRaw schema text (Some es) a
AnswersRaw schema es pins (Ok (At n text)) a = IsRaw schema text (slice_get pins n) a
AnswersRaw schema es pins request a = Unit {0}

-- lines in turn, where these events were accepted before, and these are the events of each snapshot so far
abbrev pub RawFrom : Schema → List Event → List (List Event) → List (List ℕ) → List Answered → Type 0
RawFrom schema es pins (line ∷ lines) (a ∷ made) =
    AnswersRaw schema es pins (asked_by line) a × RawFrom schema (es ++ accepted_for schema (asked_by line) a) (pins ++ pinned_for es (asked_by line) a) lines made
RawFrom schema es pins lines made = Unit {0}

-- each line that asks a matching query is answered, byte for byte, by the answer over the raw events that were accepted before it, or before its pin
abbrev pub AnswersAreRaw : List (List ℕ) → List Answered → Type 0
AnswersAreRaw (first ∷ lines) (a ∷ made) = (schema : Schema) → spec_of first ≡ Ok schema → RawFrom schema [] [] lines made
AnswersAreRaw lines made = Unit {0}

-- answers to lines of a script, one each, of which those to matching queries are raw
abbrev pub RawScript : List (List ℕ) → List Answered → Type 0
RawScript lines made = Script lines made × AnswersAreRaw lines made
