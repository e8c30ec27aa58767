-- A run of the core: steps, one after another, with a reply to each.
use Rattle.std.specs.Prelude.{◌≡◌, ◌⊎◌, ℕ, List, [], ◌∷◌, Result, Ok, Err, slice_get}
use Rattle.dr_schema.specs.Fits.{FitsSchema}
use Rattle.dr_schema.specs.declared.schema.Schema.{Schema}
use Rattle.dr_answers.specs.declared.answer_error.AnswerError.{AnswerError}
use Rattle.dr_answers.specs.AnswerRefusal as no_answer
use Rattle.dr_ask.specs.Asked.{asked}
use Rattle.dr_ask.specs.MadeFor.{MadeFor}
use Rattle.dr_core.specs.declared.step.Step.{Step}
use Rattle.dr_core.specs.declared.step.Step.TheVariants.{Accept, Seal, Plan, Commit, Pin, Ask, Audit}
use Rattle.dr_core.specs.declared.reply.Reply.{Reply}
use Rattle.dr_core.specs.declared.reply.Reply.TheVariants.{Accepted, Sealed, Job as JobGiven, Committed, Pinned as PinGiven, Answer, Refused, NoSuch}
use Rattle.dr_core.specs.declared.core_error.CoreError.{CoreError}
use Rattle.dr_core.specs.declared.core_error.CoreError.TheVariants as error
use Rattle.dr_core.specs.Steps.{accept, seal, plan, commit, pin, given}
use Rattle.dr_core.specs.Asking.{answer_over, audited}
use Rattle.dr_timeline.specs.declared.timeline_error.TimelineError.TheVariants.{NoMemory}
use Rattle.dr_merge.specs.Refusal as merge
use Rattle.dr_timeline.specs.Refusal.{number_of}
use Rattle.dr_cuts.specs.RawAnswer.{raw_answer}
use Rattle.dr_timeline.specs.CoreState.{CoreState, empty_core}

-- a step may be taken over a schema: its event fits it, or its query was made for it
abbrev pub FitsStep : Schema → Step → Type 0
FitsStep schema (Accept e) = FitsSchema schema e
FitsStep schema (Seal k) = Unit {0}
FitsStep schema (Plan k lo hi purpose) = Unit {0}
FitsStep schema (Commit n) = Unit {0}
FitsStep schema Pin = Unit {0}
FitsStep schema (Ask n q) = MadeFor schema (asked q)
FitsStep schema (Audit n q) = MadeFor schema (asked q)

-- the reply that an answer makes
abbrev pub reply_to : Result (List ℕ) AnswerError → Reply
reply_to (Ok text) = Answer text
reply_to (Err e) = Refused (no_answer.number_of e)

-- the reply that a refusal makes
abbrev pub reply_for : CoreError → Reply
reply_for error.NoSuch = NoSuch
reply_for (error.Merge e) = Refused (merge.number_of e)
reply_for (error.Timeline e) = Refused (number_of e)

-- what a step makes of the run, or its refusal, which changes nothing
abbrev pub told : {A : Type 0} → (A → Reply × CoreState) → CoreState → Result A CoreError → Reply × CoreState
told done old (Ok x) = done x
told done old (Err e) = (reply_for e, old)

-- the reply to a step, and the state after it, where memory is found; a query on a snapshot is answered over its own ranges,
-- and an audit over its events; an audit of a scan is answered as one of a snapshot that there isn't
abbrev pub taken : CoreState → Step → Reply × CoreState
taken old (Accept e) = told (λ a. (Accepted a.0, a.1)) old (accept e old)
taken old (Seal k) = told (λ new. (Sealed, new)) old (seal k old)
taken old (Plan k lo hi purpose) = told (λ a. (JobGiven a.0, a.1)) old (plan k lo hi purpose old)
taken old (Commit n) = told (λ a. (Committed a.0, a.1)) old (commit n old)
taken old Pin = (PinGiven (pin old).0, (pin old).1)
taken old (Ask n q) = told (λ p. (reply_to (answer_over (asked q) p), old)) old (given (slice_get old.pins n))
taken old (Audit n q) = told (λ p. (reply_to (raw_answer p.schema (asked q) p.stream), old)) old (audited (asked q) (slice_get old.pins n))

-- the reply and the state after it are these
abbrev pub Becomes : Reply → CoreState → Reply × CoreState → Type 0
Becomes reply new t = (reply ≡ t.0) × (new ≡ t.1)

-- a step, which changes nothing where memory isn't found
abbrev pub Moves : CoreState → Step → Reply → CoreState → Type 0
Moves old step reply new = Becomes reply new (taken old step) ⊎ Becomes reply new (Refused (number_of NoMemory), old)

-- steps in turn, one reply each
abbrev pub RunFrom : CoreState → List Step → List Reply → CoreState → Type 0
RunFrom old [] [] new = new ≡ old
RunFrom old [] (r ∷ rs) new = ⊥
RunFrom old (s ∷ ss) [] new = ⊥
RunFrom old (s ∷ ss) (r ∷ rs) new = (mid : CoreState) × Moves old s r mid × RunFrom mid ss rs new

-- a run from a timeline without events
abbrev pub Run : Schema → List Step → List Reply → Type 0
Run schema steps replies = (new : CoreState) × RunFrom (empty_core schema) steps replies new
