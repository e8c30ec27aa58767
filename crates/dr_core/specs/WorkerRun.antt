-- A run of the core whose queries are answered by several workers: a run, but that the system may refuse a thread to a query.
use Rattle.std.specs.Prelude.{◌≡◌, ◌⊎◌, true, List, [], ◌∷◌, ◌++◌, Option, slice_get}
use Rattle.dr_base.specs.declared.event.Event.{Event}
use Rattle.dr_schema.specs.declared.schema.Schema.{Schema}
use Rattle.dr_ask.specs.Asked.{Asked, asked}
use Rattle.dr_ask.specs.Matching.{is_matching}
use Rattle.dr_timeline.specs.CoreState.{CoreState, empty_core}
use Rattle.dr_core.specs.declared.step.Step.{Step}
use Rattle.dr_core.specs.declared.step.Step.TheVariants.{Ask}
use Rattle.dr_core.specs.declared.reply.Reply.{Reply}
use Rattle.dr_core.specs.declared.reply.Reply.TheVariants.{Refused}
use Rattle.dr_core.specs.Headline.{accepted_by, pinned_by, IsRaw}
use Rattle.dr_core.specs.Run.{Becomes, Moves}

-- a query is refused for want of a thread, which changes nothing
abbrev pub LacksThread : CoreState → Step → Reply → CoreState → Type 0
LacksThread old (Ask n q) reply new = Becomes reply new (Refused 80, old)
LacksThread old step reply new = ⊥

abbrev pub MovesByWorkers : CoreState → Step → Reply → CoreState → Type 0
MovesByWorkers old step reply new = Moves old step reply new ⊎ LacksThread old step reply new

-- steps in turn, one reply each
abbrev pub RunFromByWorkers : CoreState → List Step → List Reply → CoreState → Type 0
RunFromByWorkers old [] [] new = new ≡ old
RunFromByWorkers old [] (r ∷ rs) new = ⊥
RunFromByWorkers old (s ∷ ss) [] new = ⊥
RunFromByWorkers old (s ∷ ss) (r ∷ rs) new = (mid : CoreState) × MovesByWorkers old s r mid × RunFromByWorkers mid ss rs new

-- a run from a timeline without events
abbrev pub RunByWorkers : Schema → List Step → List Reply → Type 0
RunByWorkers schema steps replies = (new : CoreState) × RunFromByWorkers (empty_core schema) steps replies new

-- ---- what the answers are, in terms of the steps and replies alone

-- the reply to a matching query on a snapshot of these events: the raw answer, or that memory or a thread was lacking
abbrev pub IsRawByWorkers : Schema → Asked → Option (List Event) → Reply → Type 0
IsRawByWorkers schema q pinned reply = IsRaw schema q pinned reply ⊎ (reply ≡ Refused 80)

-- a step that asks a matching query is answered so
abbrev pub AnswersRawByWorkers : Schema → List (List Event) → Step → Reply → Type 0
AnswersRawByWorkers schema pins (Ask n q) reply = is_matching (asked q) ≡ true → IsRawByWorkers schema (asked q) (slice_get pins n) reply
AnswersRawByWorkers schema pins step reply = Unit {0}

-- steps in turn, one reply each, where these events were accepted before, and these are the events of each snapshot so far
abbrev pub AnswersFromByWorkers : Schema → List Event → List (List Event) → List Step → List Reply → Type 0
AnswersFromByWorkers schema es pins (s ∷ ss) (r ∷ rs) =
    AnswersRawByWorkers schema pins s r × AnswersFromByWorkers schema (es ++ accepted_by s r) (pins ++ pinned_by es s r) ss rs
AnswersFromByWorkers schema es pins [] [] = Unit {0}
AnswersFromByWorkers schema es pins [] (r ∷ rs) = ⊥
AnswersFromByWorkers schema es pins (s ∷ ss) [] = ⊥

-- each answer to a matching query on a snapshot is, byte for byte, the answer over the raw events that were accepted before its pin
abbrev pub AnswersAreRawByWorkers : Schema → List Step → List Reply → Type 0
AnswersAreRawByWorkers schema steps replies = AnswersFromByWorkers schema [] [] steps replies
