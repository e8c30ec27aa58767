-- What each command of a script does: what is written for it, and the state after it, or its refusal, which changes nothing.
use Rattle.std.specs.Prelude.{◌≡◌, ◌⊎◌, ℕ, ℤ, Bool, true, false, List, ◌++◌, Option, None, Result, Ok, Err, codes, decimal, slice_get, if◌then◌else◌}
use Rattle.dr_base.specs.FaultLine.{fault_line, arg_part}
use Rattle.dr_base.specs.Reading.{◌>>=◌, passed}
use Rattle.dr_base.specs.declared.fault.Arg.{Arg}
use Rattle.hex.specs.Hex.{encode_lower}
use Rattle.dr_time.specs.Refusal as time
use Rattle.dr_gran.specs.Truncation.{truncation}
use Rattle.dr_base.specs.declared.event.Event.{Event}
use Rattle.dr_events.specs.declared.unparseable.Unparseable.{Unparseable}
use Rattle.dr_events.specs.Refusal as event
use Rattle.dr_events.specs.EventOf.{event_of}
use Rattle.dr_answers.specs.AnswerRefusal as no_answer
use Rattle.dr_ask.specs.Asked.{Asked, is_scan}
use Rattle.dr_ask.specs.declared.query_error.QueryError.{QueryError}
use Rattle.dr_ask.specs.declared.query_error.QueryError.TheVariants.{Unsupported}
use Rattle.dr_ask.specs.QueryOf.{query_of}
use Rattle.dr_ask.specs.Refusal as query
use Rattle.dr_schema.specs.declared.schema.Schema.{Schema}
use Rattle.dr_counts.specs.CountsLine.{counts_line}
use Rattle.dr_timeline.specs.declared.outcome.Outcome.TheVariants.{Unparseable as NotParsed}
use Rattle.dr_timeline.specs.declared.stats.Stats.{Stats}
use Rattle.dr_timeline.specs.Noted.{stats}
use Rattle.dr_merge.specs.declared.purpose.Purpose.{Purpose}
use Rattle.dr_merge.specs.declared.purpose.Purpose.TheVariants.{Merge, Publish}
use Rattle.dr_cuts.specs.RawAnswer.{raw_answer}
use Rattle.dr_timeline.specs.CoreState.{CoreState}
use Rattle.dr_timeline.specs.declared.ask_error.AskError.{AskError}
use Rattle.dr_timeline.specs.declared.ask_error.AskError.TheVariants as by_workers
use Rattle.dr_cuts.specs.Segments.{pinned}
use Rattle.dr_core.specs.Asking.{answer_over}
use Rattle.dr_core.specs.Refusal as core_refusal
use Rattle.dr_core.specs.Steps as core
use Rattle.dr_requests.specs.declared.command_error.CommandError.{CommandError}
use Rattle.dr_requests.specs.declared.command_error.CommandError.TheVariants.{NoMemory}
use Rattle.dr_requests.specs.declared.request.Request.{Request}
use Rattle.dr_requests.specs.declared.request.Request.TheVariants as line
use Rattle.dr_script.specs.declared.script_error.ScriptError.{ScriptError}
use Rattle.dr_script.specs.declared.script_error.ScriptError.TheVariants.{Command, Time, Core, Query as BadQuery, Answer, WorkerNotStarted}
use Rattle.dr_requests.specs.Refusal.{number_of, name_of}
use Rattle.dr_requests.specs.Refusal as command
use Rattle.dr_requests.specs.Request.{instant_in}

-- what is written for a line, and whether it refuses the line
pub record Answered : Type 0 where
  pub line : List ℕ
  pub is_refused : Bool

abbrev pub answered : List ℕ → Answered
answered line = record { line = line; is_refused = false }

-- ---- refusals

abbrev pub refused : ℕ → List ℕ → Option Arg → Answered
refused number name arg = record { line = fault_line number name arg; is_refused = true }

-- a refusal of this crate
abbrev pub refused_by : CommandError → Answered
refused_by e = refused (number_of e) (name_of e) None

-- the system refused a thread to a query
abbrev pub not_started : Answered
not_started = refused 80 (codes "WorkerNotStarted") None

-- `unparseable NUMBER NAME`, and the column's place where there is one
abbrev pub unparseable_line : ℕ → List ℕ → Option Arg → List ℕ
unparseable_line number name arg = codes "unparseable " ++ decimal number ++ codes " " ++ name ++ arg_part arg

-- a line that is no event is not refused
abbrev pub unparseable : Unparseable → Answered
unparseable e = answered (unparseable_line (event.number_of e) (event.name_of e) (event.arg_of e))

-- what is written where a command changes nothing
abbrev pub told : ScriptError → Answered
told (Command e) = refused_by e
told (Time e) = refused (time.number_of e) (time.name_of e) None
told (Core e) = refused (core_refusal.number_of e) (core_refusal.name_of e) None
told (BadQuery e) = refused (query.number_of e) (query.name_of e) (query.arg_of e)
told (Answer e) = refused (no_answer.number_of e) (no_answer.name_of e) None
told WorkerNotStarted = not_started

-- memory ran out
abbrev pub is_memory : ScriptError → Bool
is_memory (Command e) = command.is_memory e
is_memory (Time e) = false
is_memory (Core e) = core_refusal.is_memory e
is_memory (BadQuery e) = query.is_memory e
is_memory (Answer e) = no_answer.is_memory e
is_memory WorkerNotStarted = false

-- memory ran out, or a thread was refused
abbrev pub is_lack : ScriptError → Bool
is_lack (Command e) = command.is_memory e
is_lack (Time e) = false
is_lack (Core e) = core_refusal.is_memory e
is_lack (BadQuery e) = query.is_memory e
is_lack (Answer e) = no_answer.is_memory e
is_lack WorkerNotStarted = true

-- a thread was refused, which is so only where this holds
abbrev pub ThreadsIf : Type 0 → ScriptError → Type 0
ThreadsIf asks (Command e) = Unit {0}
ThreadsIf asks (Time e) = Unit {0}
ThreadsIf asks (Core e) = Unit {0}
ThreadsIf asks (BadQuery e) = Unit {0}
ThreadsIf asks (Answer e) = Unit {0}
ThreadsIf asks WorkerNotStarted = asks

-- what several workers refused
abbrev pub asking_error : AskError → ScriptError
asking_error (by_workers.Answer e) = Answer e
asking_error by_workers.WorkerNotStarted = WorkerNotStarted

-- a line is refused for want of memory, or of a thread
abbrev pub IsLack : Answered → Type 0
IsLack a = (a ≡ refused_by NoMemory) ⊎ (a ≡ not_started)

-- ---- commands

-- an event is accepted; a text that is none is counted
abbrev pub add_read : Result Event Unparseable → CoreState → Result (Answered × CoreState) ScriptError
add_read (Ok e) c = do
  n ← passed Core (core.accept e c)
  Ok (answered (codes "accepted " ++ decimal n.0), n.1)
add_read (Err e) c = Ok (unparseable e, core.note NotParsed c)

-- `+ EVENT`
abbrev pub add_event : List ℕ → CoreState → Result (Answered × CoreState) ScriptError
add_event text c = add_read (event_of c.timeline.schema 0 text) c

-- the chunk in which an instant lies
abbrev pub chunk_named : CoreState → List ℕ → Result ℤ ScriptError
chunk_named c instant = do
  t ← passed Time (instant_in instant)
  Ok (truncation c.timeline.schema.segment_granularity t)

-- `seal INSTANT`: the open range of a chunk is sealed
abbrev pub seal_chunk : List ℕ → CoreState → Result (Answered × CoreState) ScriptError
seal_chunk instant c = do
  k ← chunk_named c instant
  s ← passed Core (core.seal k c)
  Ok (answered (codes "sealed"), s)

-- what is written where ranges became one, which has this version
abbrev pub joined_line : Purpose → ℕ → List ℕ
joined_line Merge version = codes "merged"
joined_line Publish version = codes "published v" ++ decimal version

-- `merge INSTANT LO HI`, `publish INSTANT LO HI`: a job that is planned and committed at once
abbrev pub join_ranges : Purpose → List ℕ → ℕ → ℕ → CoreState → Result (Answered × CoreState) ScriptError
join_ranges purpose instant lo hi c = do
  k ← chunk_named c instant
  n ← passed Core (core.join k lo hi purpose c)
  Ok (answered (joined_line purpose n.0), n.1)

-- `plan merge INSTANT LO HI`, `plan publish INSTANT LO HI`: a job that is kept, numbered from 0
abbrev pub plan_ranges : Purpose → List ℕ → ℕ → ℕ → CoreState → Result (Answered × CoreState) ScriptError
plan_ranges purpose instant lo hi c = do
  k ← chunk_named c instant
  n ← passed Core (core.plan k lo hi purpose c)
  Ok (answered (codes "job " ++ decimal n.0), n.1)

-- `commit N`: the job of that number is committed
abbrev pub commit_job : ℕ → CoreState → Result (Answered × CoreState) ScriptError
commit_job number c = do
  n ← passed Core (core.commit number c)
  Ok (answered (codes "committed"), n.1)

-- `pin`: a snapshot that is kept, numbered from 0
abbrev pub pin_snapshot : CoreState → Result (Answered × CoreState) ScriptError
pin_snapshot c = Ok (answered (codes "pin " ++ decimal (core.pin c).0), (core.pin c).1)

-- `query JSON`: a query is answered over the ranges as they are
abbrev pub ask_now : List ℕ → CoreState → Result (Answered × CoreState) ScriptError
ask_now text c = do
  q ← passed BadQuery (query_of c.timeline.schema text)
  a ← passed Answer (answer_over q (pinned c.timeline))
  Ok (answered a, c)

-- `at N JSON`: it is answered over the ranges of the snapshot of that number
abbrev pub ask_at : ℕ → List ℕ → CoreState → Result (Answered × CoreState) ScriptError
ask_at number text c = do
  p ← passed Core (core.given (slice_get c.pins number))
  q ← passed BadQuery (query_of c.timeline.schema text)
  a ← passed Answer (answer_over q p)
  Ok (answered a, c)

-- a query that can be audited, which a scan can't
abbrev pub no_scan : Asked → Result Asked QueryError
no_scan q = if is_scan q.shape then Err (Unsupported (codes "scan")) else Ok q

abbrev pub grouping_of : Schema → List ℕ → Result Asked QueryError
grouping_of schema text = do
  q ← query_of schema text
  no_scan q

-- `audit JSON`: it is answered over the accepted events, one by one
abbrev pub audit_now : List ℕ → CoreState → Result (Answered × CoreState) ScriptError
audit_now text c = do
  q ← passed BadQuery (grouping_of c.timeline.schema text)
  a ← passed Answer (raw_answer c.timeline.schema q c.timeline.stream)
  Ok (answered a, c)

-- `stats`: what became of the events
abbrev pub stats_line : Stats → List ℕ
stats_line n = counts_line n.processed n.unparseable n.thrown_away

abbrev pub tell_stats : CoreState → Result (Answered × CoreState) ScriptError
tell_stats c = Ok (answered (stats_line (stats c.timeline)), c)

-- `image INSTANT PLACE`: the image of the sealed range of a chunk at that place
abbrev pub image_at : List ℕ → ℕ → CoreState → Result (Answered × CoreState) ScriptError
image_at instant place c = do
  k ← chunk_named c instant
  bytes ← passed Core (core.image k place c)
  Ok (answered (encode_lower bytes), c)

-- a query is asked, of the ranges as they are or of a snapshot
abbrev pub AsksQuery : Request (List ℕ) → Type 0
AsksQuery (line.Query text) = Unit {0}
AsksQuery (line.At number text) = Unit {0}
AsksQuery request = ⊥

abbrev pub AsksIn : Result (Request (List ℕ)) CommandError → Type 0
AsksIn (Ok request) = AsksQuery request
AsksIn (Err e) = ⊥

-- what a line asks for is done
abbrev pub carried_out : CoreState → Request (List ℕ) → Result (Answered × CoreState) ScriptError
carried_out c (line.Add text) = add_event text c
carried_out c (line.Seal instant) = seal_chunk instant c
carried_out c (line.Join purpose instant lo hi) = join_ranges purpose instant lo hi c
carried_out c (line.Plan purpose instant lo hi) = plan_ranges purpose instant lo hi c
carried_out c (line.Commit number) = commit_job number c
carried_out c line.Pin = pin_snapshot c
carried_out c (line.Query text) = ask_now text c
carried_out c (line.At number text) = ask_at number text c
carried_out c (line.Audit text) = audit_now text c
carried_out c (line.Image instant place) = image_at instant place c
carried_out c line.Stats = tell_stats c
