-- What the answers of a run are, in terms of its steps and replies alone.
use Rattle.std.specs.Prelude.{◌≡◌, ◌⊎◌, true, List, [], ◌∷◌, ◌++◌, Option, Some, None, slice_get}
use Rattle.dr_base.specs.declared.event.Event.{Event}
use Rattle.dr_schema.specs.declared.schema.Schema.{Schema}
use Rattle.dr_ask.specs.Asked.{Asked, asked}
use Rattle.dr_ask.specs.Matching.{is_matching}
use Rattle.dr_core.specs.declared.step.Step.{Step}
use Rattle.dr_core.specs.declared.step.Step.TheVariants.{Accept, Pin, Ask}
use Rattle.dr_core.specs.declared.reply.Reply.{Reply}
use Rattle.dr_core.specs.declared.reply.Reply.TheVariants.{Accepted, Pinned, Refused, NoSuch}
use Rattle.dr_cuts.specs.RawAnswer.{raw_answer}
use Rattle.dr_core.specs.Run.{reply_to}

-- the event of a step that was answered `Accepted`
abbrev pub accepted_by : Step → Reply → List Event
accepted_by (Accept e) (Accepted n) = e ∷ []
accepted_by step reply = []

-- the events that a snapshot has, where the step pinned one: those that were accepted before
abbrev pub pinned_by : List Event → Step → Reply → List (List Event)
pinned_by es Pin (Pinned n) = es ∷ []
pinned_by es step reply = []

-- the reply to a matching query on a snapshot of these events: the raw answer, or that memory ran out
abbrev pub IsRaw : Schema → Asked → Option (List Event) → Reply → Type 0
IsRaw schema q None reply = (reply ≡ NoSuch) ⊎ (reply ≡ Refused 0)
IsRaw schema q (Some es) reply = (reply ≡ reply_to (raw_answer schema q es)) ⊎ (reply ≡ Refused 0)

-- a step that asks a matching query is answered so
abbrev pub AnswersRaw : Schema → List (List Event) → Step → Reply → Type 0
AnswersRaw schema pins (Ask n q) reply = is_matching (asked q) ≡ true → IsRaw schema (asked q) (slice_get pins n) reply
AnswersRaw schema pins step reply = Unit {0}

-- steps in turn, one reply each, where these events were accepted before, and these are the events of each snapshot so far
abbrev pub AnswersFrom : Schema → List Event → List (List Event) → List Step → List Reply → Type 0
AnswersFrom schema es pins (s ∷ ss) (r ∷ rs) = AnswersRaw schema pins s r × AnswersFrom schema (es ++ accepted_by s r) (pins ++ pinned_by es s r) ss rs
AnswersFrom schema es pins [] [] = Unit {0}
AnswersFrom schema es pins [] (r ∷ rs) = ⊥
AnswersFrom schema es pins (s ∷ ss) [] = ⊥

-- each answer to a matching query on a snapshot is, byte for byte, the answer over the raw events that were accepted before its pin
abbrev pub AnswersAreRaw : Schema → List Step → List Reply → Type 0
AnswersAreRaw schema steps replies = AnswersFrom schema [] [] steps replies
